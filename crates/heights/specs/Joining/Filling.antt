-- What the functions of src/ say to each other: the cells while they are filled, in rising offset.
use Rattle.std.specs.Prelude.{true, List, ◌≡◌, ◌≢◌, ◌⊎◌, ℕ, ◌≤◌, ◌<◌, length, get_or}
use Rattle.sizes.specs.Sizes.{expression_most}
use Rattle.isa.specs.Classes.{kind_goto, kind_if_goto, kind_end}
use Rattle.isa.specs.Decode.{kind_at, next, operand, height_after}
use Rattle.isa.specs.Starts.{is_start}
use Rattle.isa.specs.Walk.{After, Walk}
use Rattle.verdict.specs.Pass3.{unreached}
use Rattle.verdict.specs.Acceptance.{Acceptable}

-- the two ways in which m may come after the instruction at k: as the target of a jump, and as the next start
pub record AtTarget (e : List ℕ) (k m : ℕ) : Type 0 where
  pub least : kind_goto ≤ kind_at e k
  pub most : kind_at e k ≤ kind_if_goto
  pub place : m ≡ operand e k

pub record AtNext (e : List ℕ) (k m : ℕ) : Type 0 where
  pub no_goto : kind_at e k ≢ kind_goto
  pub no_end : kind_at e k ≢ kind_end
  pub place : m ≡ next e k

-- the instruction at k ends within the bytes, and there is a cell for all that may come after it
pub record Room (e : List ℕ) (k : ℕ) (hs : List ℕ) : Type 0 where
  pub short : length e ≤ expression_most
  pub inside : next e k ≤ length e
  pub long : length hs ≡ expression_most
  pub cell : (m : ℕ) → After e k m → m < expression_most

-- hs' is hs with h stored at each offset of A
pub record Stored (A : ℕ → Type 0) (h : ℕ) (hs hs' : List ℕ) : Type 0 where
  pub long : length hs' ≡ length hs
  pub there : (m : ℕ) → A m → get_or hs' m 0 ≡ h
  pub others : (j : ℕ) → (get_or hs' j 0 ≡ get_or hs j 0) ⊎ (A j × (get_or hs' j 0 ≡ h))

-- Before the turn of the start i: a cell with a height is shown by a walk, and of each reached start before i, all that
-- may come after it has the height after it.
pub record Filling (e : List ℕ) (i : ℕ) (hs : List ℕ) : Type 0 where
  pub acceptable : Acceptable e
  pub start : i < length e → is_start e i ≡ true
  pub long : length hs ≡ expression_most
  pub begin : get_or hs 0 0 ≡ 0
  pub shown : (j : ℕ) → j < expression_most → get_or hs j 0 ≢ unreached → (w : List ℕ) × Walk e 0 0 w j (get_or hs j 0)
  pub told : (k : ℕ) → k < i → is_start e k ≡ true → get_or hs k 0 ≢ unreached → (m : ℕ) → After e k m → get_or hs m 0 ≡ height_after e k (get_or hs k 0)
