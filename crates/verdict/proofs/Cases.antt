-- The verdict case by case, as the code meets the cases.
use mathlib.Core.List.{List}
use mathlib.Core.Path.{◌≡◌, ap, sym, ◌∙◌}
use Prim.Native.Nat.{ℕ, ◌≤◌, ◌<◌}
use native.Mathlib.Omega.{arith}
use lib.ListN.{length}
use borrow.Author.Tests.{le-leb, lt-leb}
use Rattle.sizes.specs.Sizes.{expression_most}
use Rattle.refusals.specs.Numbers.{expression_size}
use Rattle.refusals.specs.Refusal.{Refusal, refusal}
use Rattle.isa.specs.Walk.{one}
use Rattle.verdict.specs.Fault.{fault}
use Rattle.verdict.specs.Pass1.{fault1, pass1, Decodes}
use Rattle.verdict.specs.Pass2.{fault2, pass2, Aims}
use Rattle.verdict.specs.Pass3.{pass3}
use Rattle.verdict.specs.Verdict.{refused, after1, after2, after3, verdict}
use Rattle.verdict.proofs.Decoded.{clear_holds}

pub verdict_empty : (e : List ℕ) → length e ≡ 0 → refused (refusal expression_size 0) ≡ verdict e
unfolding verdict
verdict_empty e p = rw p

pub verdict_long : (e : List ℕ) → expression_most < length e → refused (refusal expression_size 0) ≡ verdict e
unfolding verdict
verdict_long e p = rw (le-leb 1 (length e) (omega arith), lt-leb (length e) 1024 p)

module _ (e : List ℕ) (some : 1 ≤ length e) (short : length e ≤ expression_most) where
  pub verdict_sized : verdict e ≡ after1 e (pass1 e)
  unfolding verdict
  verdict_sized = rw (le-leb 1 (length e) some, le-leb (length e) 1024 short)

  pub verdict_1 : (x : Refusal) → pass1 e ≡ fault x → refused x ≡ verdict e
  unfolding after1
  verdict_1 x p = sym (verdict_sized ∙ ap (after1 e) p)

  module _ (d : Decodes e) where
    verdict_decoded : verdict e ≡ after2 e (pass2 e)
    unfolding after1
    verdict_decoded = verdict_sized ∙ ap (after1 e) ((clear_holds (fault1 e) e).1 d)

    pub verdict_2 : (x : Refusal) → pass2 e ≡ fault x → refused x ≡ verdict e
    unfolding after2
    verdict_2 x p = sym (verdict_decoded ∙ ap (after2 e) p)

    pub verdict_3 : Aims e → verdict e ≡ after3 e (pass3 one e)
    unfolding after2
    verdict_3 a = verdict_decoded ∙ ap (after2 e) ((clear_holds (fault2 e) e).1 a)
