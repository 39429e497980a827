-- What users of `heights` may cite. The contract of `heights` (src/lib.rt): of any bytes its answer is the verifier's,
-- and the array that it leaves has for each offset the height with which walks arrive there (specs/Arrivals.antt).
use mathlib.Core.Bool.{true}
use mathlib.Core.List.{List}
use mathlib.Core.Path.{◌≡◌, sym, ◌∙◌}
use mathlib.Core.Logic.{◌≢◌}
use Prim.Native.Nat.{ℕ, ◌<◌}
use native.Mathlib.Omega.{arith}
use native.Mathlib.Decide.{ℕ_discrete}
use lib.ListN.{get_or}
use lib.Seq.{ext_get_or}
use Rattle.isa.specs.Starts.{is_start}
use Rattle.isa.specs.Walk.{Walk}
use Rattle.isa.proofs.Promises.{walk_last}
use Rattle.verdict.specs.Pass3.{unreached}
use Rattle.verdict.specs.Acceptance.{Accepted}
use Rattle.verdict.specs.Verdict.{Verdict, accepted, refused}
use Rattle.verdict.proofs.Promises.{ready}
use Rattle.heights.specs.Arrivals.{Arrivals, ArrivalsBy}

-- A cell with the mark says that no walk arrives: the mark is no height, since at most 64 cells remain.
pub no_walk : (e : List ℕ) {n g l : ℕ} → Accepted e n g l → {hs : List ℕ} → Arrivals e hs → {w : List ℕ} {j u : ℕ} → Walk e 0 0 w j u
    → get_or hs j 0 ≢ unreached
no_walk e a r x p = omega (arith, (ready e a x).low, r.arrived x)

-- A cell with a height is that of an instruction's first byte.
pub only_starts : {e hs : List ℕ} → Arrivals e hs → (j : ℕ) → j < 1024 → get_or hs j 0 ≢ unreached → is_start e j ≡ true
only_starts r j h n = walk_last (r.reached j h n).1

-- ---- Every cell is determined: a verdict has one array.
module _ {e hs hs' : List ℕ} (r : Arrivals e hs) (s : Arrivals e hs') where
  same_cell : (j : ℕ) → j < 1024 → get_or hs j 0 ≡ get_or hs' j 0
  same_cell j h =
      elim (ℕ_discrete (get_or hs' j 0) unreached) [
        | yes p ↦ elim (ℕ_discrete (get_or hs j 0) unreached) [ yes q ↦ q ∙ sym p | no q ↦ sym (s.arrived (r.reached j h q).1) ]
        | no p ↦ r.arrived (s.reached j h p).1
      ]

  same_array : hs ≡ hs'
  same_array = ext_get_or 0 hs hs' (r.long ∙ sym s.long) (λ j h. same_cell j (omega (arith, r.long)))

pub one_array : (e : List ℕ) (v : Verdict) (hs hs' : List ℕ) → ArrivalsBy e v hs → ArrivalsBy e v hs' → hs ≡ hs'
one_array e (accepted n g l) hs hs' r s = same_array r s
one_array e (refused x) hs hs' r s = r ∙ sym s
