use native.Mathlib.Omega.{arith}
use mathlib.Core.Path.{sym, ap, ◌∙◌}
use borrow.Author.Tests.{ltb-true}
use Rattle.std.proofs.Common.{Bor, List, ℕ, length}
use Rattle.phrases.proofs.Wording.{words_at, words_length, words_beyond}
use Rattle.phrases.proofs.refused.words_of.Goals as goal

pub returns-in-Some : goal.returns-in-Some
returns-in-Some c =
    let l = words_length c.words.result.now c.words.ensures in
    let h = ltb-true c.args.number (length c.words.result.now) (sym c.in-Some.ensures.lookup.0) in
    ap (λ (x : Bor (List ℕ)). x.now) c.in-Some.ensures.lookup.1 ∙ words_at c.words.result.now c.words.ensures c.args.number _ (omega (arith, h, l))

pub returns-in-None : goal.returns-in-None
returns-in-None c = words_beyond c.args.number (omega (arith, c.in-None.ensures.lookup, words_length c.words.result.now c.words.ensures))
