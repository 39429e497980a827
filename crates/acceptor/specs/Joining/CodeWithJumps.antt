-- The pass that accepts or is in doubt, over code with jumps: what it knows at a start.
use Rattle.std.specs.Prelude.{true, cond, List, [], ◌∷◌, ◌≢◌, ◌⊎◌, ◌≡◌, ℕ, ◌+◌, ◌≤◌, ◌<◌, max, get_or, length, eqb}
use Rattle.sizes.specs.Sizes.{expression_most, stack_cells}
use Rattle.isa.specs.Decode.{operand, needed, height_after}
use Rattle.isa.specs.Starts.{starts, starts_from, is_start}
use Rattle.verdict.specs.Fault.{first}
use Rattle.verdict.specs.Pass1.{fault1, pass1, Decodes}
use Rattle.verdict.specs.Pass2.{fault2, pass2, Aims}
use Rattle.verdict.specs.Pass3.{unreached, arrive, raise}
use Rattle.passes.specs.Joining.Tables.{Incoming, Measuring}
use Rattle.acceptor.specs.Joining.StraightCode.{SetsNothingBefore, Accepts}
use Rattle.acceptor.specs.declared.branching.Progress.{Progress}
use Rattle.acceptor.specs.declared.branching.Turn.{Turn}
use Rattle.acceptor.specs.declared.branching.Turn.TheVariants.{On, Accepted}

-- ---- how many offsets jumps have noted
abbrev pub noted_one : ℕ → ℕ
noted_one x = cond (eqb x unreached) 0 1

unfoldable pub tally : List ℕ → ℕ
tally [] = 0
tally (x ∷ xs) = noted_one x + tally xs

-- where the loop stands at k, t offsets have been noted, and m of them were met as starts. `waiting` has those that
-- were not met: from k on it is the code's table, and what it has lost is a start.
pub record Pending (e : List ℕ) (k : ℕ) (hs : List ℕ) (t m : ℕ) : Type 0 where
  pub waiting : List ℕ
  pub long : length e ≤ length waiting
  pub sum : tally waiting + m ≡ t
  pub later : (j : ℕ) → k ≤ j → j < length e → get_or waiting j 0 ≡ get_or hs j 0
  pub lost : (j : ℕ) → j < length e → get_or hs j 0 ≢ unreached → get_or waiting j 0 ≡ unreached → is_start e j ≡ true

-- every offset that was noted is a start
abbrev pub NotedStarts : List ℕ → List ℕ → Type 0
NotedStarts e hs = (j : ℕ) → j < length e → get_or hs j 0 ≢ unreached → is_start e j ≡ true

-- ---- from one state to another
-- r is s at a start where jumps have brought c and b
abbrev pub Joins : ℕ → ℕ → Progress → Progress → Type 0
Joins c b s r = ((c ≡ unreached) × (r ≡ s)) ⊎ ((c ≡ s.height) × (c ≢ unreached) × (r ≡ record s { distance = max b s.distance; met = s.met + 1 }))

-- r is s where nothing flows in: with what jumps have brought to it
pub record FromJumps (hs ds : List ℕ) (s r : Progress) : Type 0 where
  pub same : r ≡ record s { height = r.height; distance = r.distance }
  pub height_is : r.height ≡ get_or hs s.at 0
  pub distance_is : r.distance ≡ get_or ds s.at 0
  pub small : r.height < 256
  pub low : r.height ≤ s.greatest

-- the state behind an instruction that raises no height: one more is counted
abbrev pub progress_behind : Progress → ℕ → ℕ → ℕ → ℕ → ℕ → Progress
progress_behind s k h d l t = record s { at = k; height = h; distance = d; count = s.count + 1; longest = l; noted = t }

-- r is s behind a jump, whose target and next start lie within the bytes
pub record JumpsOn (e : List ℕ) (s : Progress) (hs ds hs' ds' : List ℕ) (r : Progress) : Type 0 where
  pub same : r ≡ progress_behind s (s.at + 3) (height_after e s.at s.height) (s.distance + 1) s.longest r.noted
  pub room : s.at + 3 < length e
  pub low : s.height ≤ stack_cells
  pub cells : needed e s.at ≤ s.height
  pub forward : s.at < operand e s.at
  pub inside : operand e s.at < length e
  pub new : get_or hs (operand e s.at) 0 ≡ unreached → r.noted ≡ s.noted + 1
  pub old : get_or hs (operand e s.at) 0 ≢ unreached → r.noted ≡ s.noted
  pub heights_are : hs' ≡ arrive (height_after e s.at s.height) (operand e s.at) hs
  pub distances_are : ds' ≡ raise (s.distance + 1) (operand e s.at) ds

-- ---- the loop
-- It stands at the start k after n instructions, all of them reached; h and d flow in, g is the greatest height, l the
-- longest walk to an end.
pub record Stands (e : List ℕ) (k h n g t : ℕ) (hs ds : List ℕ) : Type 0 where
  pub short : length e ≤ expression_most
  pub inside : k < length e
  pub start : is_start e k ≡ true
  pub same1 : first (fault1 e) (starts_from e k) ≡ pass1 e
  pub count : n + length (starts_from e k) ≡ length (starts e)
  pub aims : NotedStarts e hs → first (fault2 e) (starts_from e k) ≡ pass2 e
  pub highest : h ≤ g
  pub lower : h ≤ 256 + k
  pub few : n ≤ k
  pub few_noted : t ≤ k
  pub heights_long : length e ≤ length hs
  pub distances_long : length e ≤ length ds
  pub low : (j : ℕ) → get_or ds j 0 ≤ k

pub record Branching (e : List ℕ) (s : Progress) (hs ds : List ℕ) : Type 0 where
  pub stands : Stands e s.at s.height s.count s.greatest s.noted hs ds
  pub near : s.distance ≤ s.at
  pub pending : Pending e s.at hs s.noted s.met
  pub measuring : s.greatest ≤ stack_cells → Decodes e → Aims e → Measuring e s.at hs ds s.height s.distance s.greatest s.longest
  pub quiet : SetsNothingBefore e s.at s.sets

-- the same where what jumps have brought to k has met what flows in: s.distance is the farther of both
pub record BranchingJoined (e : List ℕ) (s : Progress) (hs ds : List ℕ) : Type 0 where
  pub stands : Stands e s.at s.height s.count s.greatest s.noted hs ds
  pub near : s.distance ≤ s.at
  pub pending : Pending e (s.at + 1) hs s.noted s.met
  pub flow : ℕ
  pub measuring : s.greatest ≤ stack_cells → Decodes e → Aims e → Measuring e s.at hs ds s.height flow s.greatest s.longest
  pub incoming : s.greatest ≤ stack_cells → Decodes e → Aims e
      → Incoming (get_or hs s.at 0) (get_or ds s.at 0) s.height flow (record { height = s.height; distance = s.distance })
  pub quiet : SetsNothingBefore e s.at s.sets

-- what one start leads to
abbrev pub Turns : List ℕ → ℕ → List ℕ → List ℕ → Turn → Type 0
Turns e k hs ds (On s) = (k < s.at) × (s.at < length e → Branching e s hs ds)
Turns e k hs ds (Accepted a) = Accepts e a
