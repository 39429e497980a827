-- The height with which each instruction is reached: of every walk from offset 0, in the words of document 01,
-- "Verifying".
use Rattle.std.specs.Prelude.{List, Option, Some, None, Result, ◌≡◌, ◌≢◌, ℕ, ◌<◌, map, length, get_or, replicate}
use Rattle.sizes.specs.Sizes.{expression_most}
use Rattle.isa.specs.Walk.{Walk}
use Rattle.verdict.specs.Pass3.{unreached}
use Rattle.verdict.specs.Verdict.{Verdict, accepted, refused, verdict, verdict_of}
use Rattle.refusals.specs.declared.Refusal as code_refusal
use Rattle.verdict.specs.declared.Accepted as code

-- "Two walks to one instruction arrive at one height": a cell for each offset has that height, and a mark where no walk
-- arrives. The mark is no height, since at most 64 cells remain.
pub record Arrivals (e : List ℕ) (hs : List ℕ) : Type 0 where
  pub long : length hs ≡ expression_most
  pub arrived : {w : List ℕ} {j u : ℕ} → Walk e 0 0 w j u → get_or hs j 0 ≡ u
  pub reached : (j : ℕ) → j < expression_most → get_or hs j 0 ≢ unreached → (w : List ℕ) × Walk e 0 0 w j (get_or hs j 0)

-- the code's cells: the height, or the mark where there is none
abbrev pub height_or_mark : Option ℕ → ℕ
height_or_mark None = unreached
height_or_mark (Some h) = h

abbrev pub marked : List (Option ℕ) → List ℕ
marked hs = map height_or_mark hs

-- a height is not the mark
abbrev pub IsNoMark : Option ℕ → Type 0
IsNoMark c = (h : ℕ) → c ≡ Some h → h ≢ unreached

abbrev pub NoMark : List (Option ℕ) → Type 0
NoMark hs = (j : ℕ) → IsNoMark (get_or hs j None)

-- the same where the expression is accepted; where it is refused, the mark at every offset
abbrev pub ArrivalsBy : List ℕ → Verdict → List ℕ → Type 0
ArrivalsBy e (accepted n g l) hs = Arrivals e hs
ArrivalsBy e (refused x) hs = hs ≡ replicate expression_most unreached

-- The answer r is the verifier's, and the cells hs are those of its verdict.
pub record Answered (e : List ℕ) (r : Result code.Accepted code_refusal.Refusal) (hs : List ℕ) : Type 0 where
  pub answer : verdict_of r ≡ verdict e
  pub cells : ArrivalsBy e (verdict e) hs
