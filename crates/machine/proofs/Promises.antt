-- What users of `machine` may cite: promises R2 and R3, that records are well formed, how a run ends before it steps,
-- and what a loop that follows the machine needs at each step. The definitions that it names are in specs/: Machine
-- (the moves), Run (a run on any input), Recorded (what its records hold); and of other crates `isa` Walk, `verdict`
-- Acceptance.
use mathlib.Core.List.{List, []}
use mathlib.Core.Logic.{◌≢◌}
use mathlib.Core.Path.{◌≡◌}
use Prim.Native.Nat.{ℕ, ◌+◌, ◌-◌, ◌≤◌, ◌<◌}
use lib.ListN.{length, get_or}
use Rattle.isa.specs.Classes.{setv, kind_end}
use Rattle.isa.specs.Decode.{class_at, kind_at, needed, left, height_after}
use Rattle.isa.specs.Walk.{After}
use Rattle.sizes.specs.Sizes.{buffer_most}
use Rattle.refusals.specs.Refusal.{Refusal}
use Rattle.refusals.specs.Refusal.{refusal}
use Rattle.memory.specs.Spans.{Target, spans_refusal}
use Rattle.memory.specs.Fetch.{InTarget, target_byte}
use Rattle.frames.specs.Trailer.{trailer_size, tag_of, TagFits}
use Rattle.frames.specs.Record.{Record, encode_all, memory, AllWellFormed}
use Rattle.verdict.specs.Verdict.{accepted, refused, verdict}
use Rattle.verdict.specs.Acceptance.{Accepted, Ready}
use Rattle.machine.specs.Given.{Given, Fixed, State, begin}
use Rattle.machine.specs.Meaning.{leaves, faults, end_done, done, stack_after, variables_after, offset_after}
use Rattle.machine.specs.Machine.{Answer, Ended, completed, stopped, Standing, stands, over, onward, moves}
use Rattle.machine.specs.Run.{input_refusal, begun, stepped, ended, steps_of, number_of}
use Rattle.machine.specs.Standing.{standing_from, standing}
use Rattle.machine.specs.Recorded.{FromTarget, AllFromTarget, records_of, Typed}
use Rattle.machine.proofs.Cells as cells
use Rattle.machine.proofs.Following as following
use Rattle.machine.proofs.Steps as steps
use Rattle.machine.proofs.Standing as standings
use Rattle.machine.proofs.Made as made
use Rattle.machine.proofs.Ending as ending
use Rattle.machine.proofs.Recorded as recorded
use Rattle.machine.proofs.WellFormed as well_formed
-- OnWalk e k s i: some walk of e from offset 0 to k arrives with the height of the stack s and has i instructions
-- before k.
pub use Rattle.machine.proofs.Following.{OnWalk}

-- ---- R2: the steps of a run
module _ (g : Given) where
  -- never more than the allowance
  pub steps_allowed : steps_of (ended g) ≤ g.allowance
  steps_allowed = steps.steps_allowed g

  -- never more than the longest walk
  pub steps_longest : {n h l : ℕ} → verdict g.expression ≡ accepted n h l → steps_of (ended g) ≤ l
  steps_longest = steps.steps_longest g

  -- an allowance of the longest walk, or more, is never spent: refusal 16 is not met
  pub allowance_enough : {n h l : ℕ} → verdict g.expression ≡ accepted n h l → l ≤ g.allowance → number_of (ended g) ≢ 16
  allowance_enough = steps.allowance_enough g

  -- and neither is one of as many steps as an expression may have bytes, as the default is
  pub bytes_enough : 1024 ≤ g.allowance → number_of (ended g) ≢ 16
  bytes_enough = steps.bytes_enough g

  -- ---- the number of a refusal is one of 1 to 21
  pub stopped_number : {r : Refusal} {rs : List Record} → ended g ≡ stopped r rs → (1 ≤ r.number) × (r.number ≤ 21)
  stopped_number = steps.stopped_number g

  -- ---- how a run begins
  -- a refused expression ends it, with 0 steps and no records; else refused inputs do; else the machine moves from its
  -- beginning
  pub refused_early : {r : Refusal} → verdict g.expression ≡ refused r → ended g ≡ stopped r []
  refused_early = steps.refused_early g

  module _ {n h l : ℕ} (p : verdict g.expression ≡ accepted n h l) where
    pub inputs_refused : input_refusal g ≢ 0 → ended g ≡ stopped (refusal (input_refusal g) 0) []
    inputs_refused = steps.inputs_refused g p

    pub inputs_fine : input_refusal g ≡ 0 → ended g ≡ stepped g
    inputs_fine = steps.inputs_fine g p

  -- the same of where the machine stands before its first move
  pub begun_refused : {r : Refusal} → verdict g.expression ≡ refused r → begun g ≡ over (stopped r [])
  begun_refused = steps.begun_refused g

  module _ {n h l : ℕ} (p : verdict g.expression ≡ accepted n h l) where
    pub begun_inputs : input_refusal g ≢ 0 → begun g ≡ over (stopped (refusal (input_refusal g) 0) [])
    begun_inputs = steps.begun_inputs g p

    pub begun_fine : input_refusal g ≡ 0 → begun g ≡ stands (begin g)
    begun_fine = steps.begun_fine g p

-- ---- where a run stands: after n moves, n at most the allowance, it goes on from there, or has ended so
module _ (g : Given) where
  pub ended_standing : (n : ℕ) → n ≤ g.allowance → ended g ≡ onward (moves g (g.allowance - n)) (standing g n)
  ended_standing = standings.ended_standing g

  -- the same from s on: n and k moves are k moves from where n lead; and what has ended stays so
  pub moves_standing : (s : Standing) {left : ℕ} (n k : ℕ) → left ≡ n + k → onward (moves g left) s ≡ onward (moves g k) (standing_from g s n)
  moves_standing = standings.moves_standing g

  pub over_stays : (s : Standing) (n k : ℕ) {o : Ended} → standing_from g s n ≡ over o → n ≤ k → standing_from g s k ≡ over o
  over_stays = standings.over_stays g

-- ---- R2 from any state on: `left` is the allowance less the steps done
module _ (g : Given) where
  pub moves_allowed : (left : ℕ) (st : State) → steps_of (moves g left st) ≤ st.steps + left
  moves_allowed = steps.moves_allowed g

  module _ {n h l : ℕ} (a : Accepted g.expression n h l) where
    pub moves_longest : (left : ℕ) (st : State) → OnWalk g.expression st.offset st.stack st.steps → steps_of (moves g left st) ≤ l
    moves_longest = steps.moves_longest g a

    pub moves_enough : (left : ℕ) (st : State) → OnWalk g.expression st.offset st.stack st.steps → l ≤ st.steps + left → number_of (moves g left st) ≢ 16
    moves_enough = steps.moves_enough g a

-- ---- one instruction: the table agrees with the meaning
module _ (m : Fixed) (k : ℕ) (s v : List ℕ) (free : ℕ) where
  -- an instruction that has its cells leaves as many as the table says, and the height after it is the table's
  pub left_cells : {cells : List ℕ} {rs : List Record} → done m k s v free ≡ leaves cells rs → needed m.expression k ≤ length s → length cells ≡ left m.expression k
  left_cells = cells.left_cells m k s v free

  pub height_after_lem : {cells : List ℕ} {rs : List Record} → done m k s v free ≡ leaves cells rs → needed m.expression k ≤ length s
      → length (stack_after m.expression k s cells) ≡ height_after m.expression k (length s)
  height_after_lem = cells.height_after_lem m k s v free

-- from an instruction that is no end, the machine goes where a walk may go
pub after_offset : (e : List ℕ) (k : ℕ) (s : List ℕ) → kind_at e k ≢ kind_end → After e k (offset_after e k s)
after_offset = cells.after_offset

-- an instruction that is no setv leaves the variables as they are
pub unset_variables : (e : List ℕ) (k : ℕ) (s v : List ℕ) → class_at e k ≢ setv → variables_after e k s v ≡ v
unset_variables = cells.unset_variables

-- ---- what a loop needs, step by step: at the offset k, with the stack s, after i steps
module _ {e : List ℕ} {n g l : ℕ} (a : Accepted e n g l) where
  -- it begins on a walk
  pub walk_begins : OnWalk e 0 [] 0
  walk_begins = following.walk_begins a

  module _ {k : ℕ} {s : List ℕ} {i : ℕ} (w : OnWalk e k s i) where
    -- the instruction there is whole and known, has its cells, and what it leaves fits
    pub walk_ready : Ready e k (length s)
    walk_ready = following.walk_ready a w

    -- with it the steps are at most the longest walk, and fewer where it is no end
    pub steps_short : i + 1 ≤ l
    steps_short = following.steps_short a w

    pub steps_shorter : kind_at e k ≢ kind_end → i + 1 < l
    steps_shorter = following.steps_shorter a w

module _ (m : Fixed) {n g l : ℕ} (a : Accepted m.expression n g l) {k : ℕ} {s : List ℕ} {i : ℕ} (w : OnWalk m.expression k s i) (v : List ℕ) (free : ℕ) where
  -- after an instruction that is not refused and no end, it is on a walk again
  pub walk_moves : {cells : List ℕ} {rs : List Record} → done m k s v free ≡ leaves cells rs → kind_at m.expression k ≢ kind_end
      → OnWalk m.expression (offset_after m.expression k s) (stack_after m.expression k s cells) (i + 1)
  walk_moves = following.walk_moves m a w v free

  -- a refusal there is one of 17 to 21
  pub walk_faults : {r : ℕ} → done m k s v free ≡ faults r → (17 ≤ r) × (r ≤ 21)
  walk_faults = following.walk_faults m a w v free

-- ---- inputs that are not refused: no span is, and the used length lies in a buffer of an allowed size
pub spans_fine : (g : Given) → input_refusal g ≡ 0 → spans_refusal g.target ≡ 0
spans_fine = made.spans_fine

pub lengths_fine : (g : Given) → input_refusal g ≡ 0 → (length g.buffer ≤ buffer_most) × (g.used ≤ length g.buffer)
lengths_fine = ending.lengths_fine

-- ---- an end needs room for the trailer
pub end_done_lem : (m : Fixed) (k : ℕ) (s v : List ℕ) (free : ℕ) → kind_at m.expression k ≡ kind_end → done m k s v free ≡ end_done free
end_done_lem = ending.end_done_lem

pub end_room : {free : ℕ} {cells : List ℕ} {rs : List Record} → end_done free ≡ leaves cells rs → trailer_size ≤ free
end_room = ending.end_room

-- so that the records of a run that completed, and the trailer, fit into the buffer
pub completed_fits : (g : Given) (a : Answer) {n : ℕ} (w : List ℕ) (rs : List Record) → ended g ≡ completed a n w rs
    → (g.used + (length (encode_all rs) + trailer_size) ≤ length g.buffer) × (length g.buffer ≤ buffer_most)
completed_fits = ending.completed_fits

-- ---- R3: each recorded byte is the target's byte at the recorded address
-- a memory record of a run, completed or stopped, holds exactly the bytes of the one span that holds its range
pub records_from_target : (g : Given) → AllFromTarget g.target (records_of (ended g))
records_from_target = recorded.records_from_target

-- the same byte by byte, where inputs are not refused: a span holds the byte's address, and the byte is the target's
-- there
pub recorded_byte : (t : Target) → spans_refusal t ≡ 0 → (a : ℕ) (bytes : List ℕ) → FromTarget t (memory a bytes) → (i : ℕ) → i < length bytes
    → InTarget t (a + i) × (get_or bytes i 0 ≡ target_byte t (a + i))
recorded_byte = recorded.recorded_byte

-- ---- every record of a run can be encoded and read back, of inputs that are what their types say, as any are: the
-- contract of `typed`
pub records_well_formed : {g : Given} → Typed g → AllWellFormed (records_of (ended g))
records_well_formed = well_formed.records_well_formed

-- and so can the tag of its frame
pub tag_fits : {g : Given} → Typed g → TagFits (tag_of g.tracepoint)
tag_fits = well_formed.tag_fits
