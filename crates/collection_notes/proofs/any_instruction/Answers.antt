use Prim.Native.Nat.{◌+◌}
use native.Mathlib.Omega.{arith}
use mathlib.Core.Path.{◌≡◌, sym, subst, ◌∙◌}
use Rattle.isa.specs.Decode.{next}
use Rattle.collection_notes.proofs.Looking.{Looking, looking_start, looking_found, looking_on, looking_end}
use Rattle.collection_notes.proofs.any_instruction.Goals as goal

pub loop-at-init : goal.loop-at-init
loop-at-init g c = λ p t. looking_start p c.args.code.now

pub returns-then-test : goal.returns-then-test
returns-then-test g c = λ p t. looking_found (c.loop-at.invariant p t) c.loop-at-test.true (sym (t _ _ c.loop-at-test.true c.test.ensures) ∙ c.if-test.true)

pub loop-at-preserved : goal.loop-at-preserved
loop-at-preserved g c = λ p t.
    let e = c.args.code.now in
    let i = c.loop-at.at in
    let z : next e i ≡ i + (1 + c.from.result) = omega (arith, c.from.ensures, c.look_up.ensures.operands_is) in
    subst (Looking p e) z (looking_on (c.loop-at.invariant p t) c.loop-at-test.true (sym (t _ _ c.loop-at-test.true c.test.ensures) ∙ c.if-test.false))

pub returns : goal.returns
returns g c = λ p t. looking_end (c.loop-at.invariant p t) c.loop-at-test.false
