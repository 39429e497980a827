-- What the code's tables and answers hold, pass by pass, in terms of the definitions.
use Rattle.std.specs.Prelude.{Bool, true, false, cond, Result, Ok, Err, List, [], ◌∷◌, ◌≡◌, ◌≢◌, ℕ, ◌+◌, ◌*◌, ◌≤◌, ◌<◌, max, get_or, length, set, take, eqb}
use Rattle.sizes.specs.Sizes.{expression_most, stack_cells}
use Rattle.refusals.specs.declared.Reason.{Reason}
use Rattle.refusals.specs.declared.Refusal as told_by
use Rattle.refusals.specs.Numbers.{number_of}
use Rattle.refusals.specs.Refusal.{told}
use Rattle.isa.specs.Classes.{kind_end}
use Rattle.isa.specs.Decode.{next, goes_on, jumps, continues, height_after}
use Rattle.isa.specs.Starts.{starts, starts_from, is_start}
use Rattle.isa.specs.Walk.{one}
use Rattle.verdict.specs.Fault.{fault}
use Rattle.verdict.specs.Pass1.{fault1, pass1, Decodes}
use Rattle.verdict.specs.Pass2.{pass2, Aims}
use Rattle.verdict.specs.Pass3.{unreached, differing, joined, arrive, raise, at_target, longer, fault3, heights_along, pass3}
use Rattle.passes.specs.declared.brought.Flow.{Flow}
use Rattle.passes.specs.declared.pass3.Carry as code

-- ---- pass 1
-- the table has a mark for each offset: whether it is a start
pub record Marked (e : List ℕ) (m : List Bool) : Type 0 where
  pub long : length e ≤ length m
  pub says : (k : ℕ) → k < length e → get_or m k false ≡ is_start e k

-- the starts of jumps
unfoldable pub jumps_among : List ℕ → List ℕ → List ℕ
jumps_among e [] = []
jumps_among e (k ∷ ks) = cond (jumps e k) (k ∷ jumps_among e ks) (jumps_among e ks)

abbrev pub jump_starts : List ℕ → List ℕ
jump_starts e = jumps_among e (starts e)

-- the table of jumps has its starts in front, so many
pub record JumpsNoted (e : List ℕ) (a : List ℕ) (n : ℕ) : Type 0 where
  pub few : n ≤ 341
  pub room : n ≤ length a
  pub same : take n a ≡ jump_starts e

-- the tables with which pass 1 begins
pub record Unmarked (e : List ℕ) (m : List Bool) (a : List ℕ) : Type 0 where
  pub marks_long : length e ≤ length m
  pub jumps_long : length e ≤ 3 * length a + 2
  pub no_mark : (k : ℕ) → get_or m k false ≡ false

-- what pass 1 leaves: the number of instructions with both tables, j jumps in the one, or its refusal
abbrev pub Scanned : List ℕ → Result ℕ told_by.Refusal → List Bool → ℕ → List ℕ → Type 0
Scanned e (Ok n) m j a = Decodes e × (n ≡ length (starts e)) × Marked e m × JumpsNoted e a j
Scanned e (Err x) m j a = pass1 e ≡ fault (told x)

-- a start k is noted behind the n jumps before it where b says that it is a jump: m jumps and the table a'
abbrev pub noted : Bool → ℕ → ℕ → List ℕ → List ℕ
noted b k n a = cond b (set a n k) a

abbrev pub counted : Bool → ℕ → ℕ
counted b n = cond b (n + 1) n

pub record Notes (b : Bool) (k n : ℕ) (a : List ℕ) (m : ℕ) (a' : List ℕ) : Type 0 where
  pub count_is : m ≡ counted b n
  pub table_is : a' ≡ noted b k n a

-- one instruction of pass 1: the offset behind it, where it has no refusal; the start k is marked then, and noted
-- behind the n jumps before it where it is a jump
abbrev pub Looked : List ℕ → ℕ → Result ℕ Reason → List Bool → ℕ → List ℕ → List Bool → ℕ → List ℕ → Type 0
Looked e k (Ok i) m n a m' n' a' = (fault1 e k ≡ 0) × (i ≡ next e k) × (m' ≡ set m k true) × Notes (jumps e k) k n a n' a'
Looked e k (Err r) m n a m' n' a' = number_of r ≡ fault1 e k

-- ---- pass 2
abbrev pub Aimed : {A : Type 0} → List ℕ → Result A told_by.Refusal → Type 0
Aimed e (Ok x) = Aims e
Aimed e (Err x) = pass2 e ≡ fault (told x)

-- ---- pass 3
-- the tables with which pass 3 begins
pub record Unmeasured (e hs ds : List ℕ) : Type 0 where
  pub heights_long : length e ≤ length hs
  pub distances_long : length e ≤ length ds
  pub no_height : (k : ℕ) → k < length e → get_or hs k 0 ≡ unreached
  pub no_distance : (k : ℕ) → get_or ds k 0 ≡ 0

-- the start k of an expression for which passes 1 and 2 hold
pub record Passing (e : List ℕ) (k : ℕ) : Type 0 where
  pub short : length e ≤ expression_most
  pub decodes : Decodes e
  pub aims : Aims e
  pub start : is_start e k ≡ true

-- what comes to a start where jumps have brought the height c and the height h flows in from the start before, or
-- nothing (`unreached`); and the distance, where jumps have brought b and d flows in with h
abbrev pub arrived : ℕ → ℕ → ℕ
arrived c h = cond (eqb h unreached) c (joined c h)

abbrev pub farther : ℕ → ℕ → ℕ → ℕ
farther h b d = cond (eqb h unreached) b (max b d)

pub record Incoming (c b h d : ℕ) (r : Flow) : Type 0 where
  pub height_is : r.height ≡ arrived c h
  pub small : r.height < 256
  pub distance_is : r.height ≢ unreached → r.distance ≡ farther h b d
  pub kept : r.height ≡ unreached → r.distance ≡ d

-- the code stands at the start k, to which h and d flow in
pub record Standing (e : List ℕ) (k h d : ℕ) (hs ds : List ℕ) : Type 0 where
  pub passing : Passing e k
  pub small : h < 256
  pub near : d ≤ 1024
  pub low : get_or ds k 0 ≤ 1024
  pub untold : get_or hs k 0 ≡ unreached → get_or ds k 0 ≡ 0
  pub heights_long : length e ≤ length hs
  pub distances_long : length e ≤ length ds

-- the start k is reached with height h, after d instructions
pub record ReachedStart (e : List ℕ) (k h d : ℕ) (hs ds : List ℕ) : Type 0 where
  pub passing : Passing e k
  pub small : h < 256
  pub same : h ≢ differing
  pub near : d ≤ 1024
  pub heights_long : length e ≤ length hs
  pub distances_long : length e ≤ length ds

-- what the code carries from a start to the next, with the number of the start's refusal, or 0
pub record Carry : Type 0 where
  pub fault : ℕ
  pub height : ℕ
  pub distance : ℕ
  pub greatest : ℕ
  pub longest : ℕ

abbrev pub carried : Result code.Carry Reason → Carry
carried (Ok s) = record { fault = 0; height = s.height; distance = s.distance; greatest = s.greatest; longest = s.longest }
carried (Err r) = record { fault = number_of r; height = 0; distance = 0; greatest = 0; longest = 0 }

-- what an instruction makes of h and d, where it is not refused
pub record HeightsAfter (e : List ℕ) (k h d g l : ℕ) (r : Carry) : Type 0 where
  pub height_is : r.height ≡ height_after e k h
  pub distance_is : r.distance ≡ d + 1
  pub greatest_is : r.greatest ≡ max g (height_after e k h)
  pub longest_is : r.longest ≡ l

pub record Effected (e : List ℕ) (k h d g l : ℕ) (r : Carry) : Type 0 where
  pub number : r.fault ≡ fault3 e k h
  pub onward : r.fault ≡ 0 → HeightsAfter e k h d g l r

-- what it leaves in the tables: what it brings to its target
pub record Brings (e : List ℕ) (k h d : ℕ) (r : Carry) (hs ds hs' ds' : List ℕ) : Type 0 where
  pub heights_are : r.fault ≡ 0 → hs' ≡ at_target e k (arrive (height_after e k h)) hs
  pub distances_are : r.fault ≡ 0 → ds' ≡ at_target e k (raise (d + 1)) ds

-- what flows on from it to the next start, if anything does
pub record FlowsOn (e : List ℕ) (k h d g l : ℕ) (r : Carry) : Type 0 where
  pub height_is : r.height ≡ cond (continues e k) (height_after e k h) unreached
  pub distance_is : r.distance ≡ d + 1
  pub greatest_is : r.greatest ≡ max g (height_after e k h)
  pub longest_is : r.longest ≡ longer e k (d + 1) l

-- the same from what the instruction of that kind made: height, distance, greatest height, longest walk
pub record FlowsFrom (kind h d g l : ℕ) (r : code.Carry) : Type 0 where
  pub height_is : r.height ≡ cond (goes_on kind) h unreached
  pub distance_is : r.distance ≡ d
  pub greatest_is : r.greatest ≡ g
  pub longest_is : r.longest ≡ cond (eqb kind kind_end) (max l d) l

-- one reached start of pass 3
pub record ReachedStep (e : List ℕ) (k h d g l : ℕ) (r : Carry) (hs ds hs' ds' : List ℕ) : Type 0 where
  pub number : r.fault ≡ fault3 e k h
  pub passed : r.fault ≡ 0 → FlowsOn e k h d g l r
  pub brings : Brings e k h d r hs ds hs' ds'

-- a start from which nothing flows on
pub record Halting (f d g l : ℕ) (r : Carry) : Type 0 where
  pub fault_is : r.fault ≡ f
  pub height_is : r.height ≡ unreached
  pub distance_is : r.distance ≡ d
  pub greatest_is : r.greatest ≡ g
  pub longest_is : r.longest ≡ l

-- one start of pass 3, reached or not
pub record Turned (e : List ℕ) (k : ℕ) (hs ds : List ℕ) (h d g l : ℕ) (r : Carry) (hs' ds' : List ℕ) : Type 0 where
  pub skipped : arrived (get_or hs k 0) h ≡ unreached → Halting 0 d g l r × (hs' ≡ hs) × (ds' ≡ ds)
  pub stepped : arrived (get_or hs k 0) h ≢ unreached → ReachedStep e k (arrived (get_or hs k 0) h) (farther h (get_or ds k 0) d) g l r hs ds hs' ds'

-- ---- pass 3 at an offset: the code's table and the definition's, where the loop stands at i
-- At i the definition's has x, all that comes to i; after i both have the same.
pub record AgreeFrom (e : List ℕ) (i x : ℕ) (code definition : List ℕ) : Type 0 where
  pub long : length e ≤ length code
  pub full : length e ≤ length definition
  pub here : i < length e → get_or definition i 0 ≡ x
  pub later : (j : ℕ) → i < j → j < length e → get_or definition j 0 ≡ get_or code j 0

-- the loop stands at offset i, to which h and d flow in
pub record Measuring (e : List ℕ) (i : ℕ) (hs ds : List ℕ) (h d g l : ℕ) : Type 0 where
  pub within : i ≤ length e
  pub here : i < length e → Passing e i
  pub small : h < 256
  pub near : d ≤ i
  pub low : (j : ℕ) → get_or ds j 0 ≤ i
  pub top : g ≤ stack_cells
  pub untold : (j : ℕ) → j < length e → get_or hs j 0 ≡ unreached → get_or ds j 0 ≡ 0
  -- the definition's tables, with which it goes on from i as it goes on from the start
  pub heights : List ℕ
  pub distances : List ℕ
  pub heights_ahead : AgreeFrom e i (arrived (get_or hs i 0) h) hs heights
  pub distances_ahead : AgreeFrom e i (farther h (get_or ds i 0) d) ds distances
  pub same : heights_along one e (starts_from e i) heights distances g l ≡ pass3 one e
