use mathlib.Core.Path.{◌≡◌, sym, ◌∙◌}
use Prim.Native.Nat.{◌+◌, ◌*◌, ◌^◌, ◌≤◌}
use Rattle.std.proofs.Common.{arith, Some, None, Err}
use Rattle.line_words.specs.Numbers.{base_of}
use Rattle.line_words.specs.declared.numbers.NumberError.TheVariants.{Large}
use Rattle.line_words.proofs.Numbering.{base_some, some_told, never, valuing_more, valuing_large, valuing_end}
use Rattle.line_words.proofs.numbers.value.Goals as goal

pub returns-in_err-last : goal.returns-in_err-last
returns-in_err-last c =
    let h : c.digit.result ≡ None = grind arith in
    absurd (never c.args.base c.args.word.now c.loop-c.c-index c.requires c.loop-c-test.true (sym h ∙ c.digit.ensures))

pub returns-in_err-higher : goal.returns-in_err-higher
returns-in_err-higher c =
    let d : c.digit.result ≡ Some c.in_ok-last.last = grind arith in
    let h : 2 ^ 64 ≤ c.loop-c.value * base_of c.args.base = grind arith in
    let e : c.from_residual-in_err-higher.result ≡ Err Large = grind arith in
    e ∙ valuing_large c.loop-c.invariant c.loop-c-test.true c.in_ok-last.last (some_told _ (sym d ∙ c.digit.ensures)) (base_some c.args.base) (omega (arith, h))

pub returns-in_err-value : goal.returns-in_err-value
returns-in_err-value c =
    let d : c.digit.result ≡ Some c.in_ok-last.last = grind arith in
    let h : 2 ^ 64 ≤ c.loop-c.value * base_of c.args.base + c.in_ok-last.last = grind arith in
    let e : c.from_residual-in_err-value.result ≡ Err Large = grind arith in
    e ∙ valuing_large c.loop-c.invariant c.loop-c-test.true c.in_ok-last.last (some_told _ (sym d ∙ c.digit.ensures)) (base_some c.args.base) h

pub loop-c-preserved : goal.loop-c-preserved
loop-c-preserved c =
    let d : c.digit.result ≡ Some c.in_ok-last.last = grind arith in
    let e : c.in_ok-value.value ≡ c.loop-c.value * base_of c.args.base + c.in_ok-last.last = grind arith in
    rw e (valuing_more c.loop-c.invariant c.loop-c-test.true c.in_ok-last.last (some_told _ (sym d ∙ c.digit.ensures)) (omega (arith, e)))

pub returns : goal.returns
returns c = valuing_end c.loop-c.invariant c.loop-c-test.false
