-- What users of the library may cite. The contracts of src/ say what each function returns and stores, on any input
-- whatever; the rest follows from them.
use mathlib.Core.List.{List, [], ◌∷◌}
use mathlib.Core.Path.{◌≡◌, sym}
use Prim.Native.Nat.{ℕ, ◌+◌, ◌≤◌, ◌<◌}
use native.Mathlib.Omega.{arith}
use lib.ListN.{length}
use lib.Dec.{T}
use Rattle.logic.specs.Tests.{member}
use Rattle.refusals.specs.Numbers.{buffer_bad, trailer_broken, record_broken, no_such_frame, no_such_record}
use Rattle.frames.specs.declared.Tag.{Tag}
use Rattle.frames.specs.Trailer.{trailer_size}
use Rattle.reader.specs.Located.{frame, located, walked}
use Rattle.reader.specs.Read.{memory_read, reading, counting}
use Rattle.reader.proofs.Promises as reader
use Rattle.reader.specs.NextRecord.{Memory, Variable, next_record}
use Rattle.lilivrez_frames.specs.FrameValues.{IsRead, IsCounted, IsFound, IsStep, read_number_of, count_number, locate_number, step_number}
use Rattle.lilivrez_frames.proofs.Numbers as numbers

-- ---- record number i of a frame
module _ (l : List ℕ) (used number i : ℕ) where
  -- the numbers that may be returned
  pub read_number : T (member (read_number_of (reading l used number i)) (0 ∷ buffer_bad ∷ trailer_broken ∷ record_broken ∷ no_such_frame ∷ no_such_record ∷ []))
  read_number = numbers.read_number l used number i

  -- and 0 is returned only where the record was read
  pub read_0 : read_number_of (reading l used number i) ≡ 0 → IsRead (reading l used number i)
  read_0 = numbers.read_0 l used number i

  -- the buffer has all the bytes of a memory record, from the place stored on
  pub read_within : {t : Tag} {a n p : ℕ} → reading l used number i ≡ memory_read t a n p → p + n ≤ length l
  read_within = reader.read_inside l used number i

-- ---- the records of a frame, counted
module _ (l : List ℕ) (used number : ℕ) where
  pub count_number_lem : T (member (count_number (counting l used number)) (0 ∷ buffer_bad ∷ trailer_broken ∷ record_broken ∷ no_such_frame ∷ []))
  count_number_lem = numbers.count_number_lem l used number

  pub count_0 : count_number (counting l used number) ≡ 0 → IsCounted (counting l used number)
  count_0 = numbers.count_0 l used number

-- ---- a frame found by its number
module _ (l : List ℕ) (used number : ℕ) where
  pub locate_number_lem : T (member (locate_number (located l used number)) (0 ∷ buffer_bad ∷ trailer_broken ∷ no_such_frame ∷ []))
  locate_number_lem = numbers.locate_number_lem l used number

  pub locate_0 : locate_number (located l used number) ≡ 0 → IsFound (located l used number)
  locate_0 = numbers.locate_0 l used number

  -- the buffer has all of it, with its trailer
  pub locate_within : {t : Tag} {s n : ℕ} → located l used number ≡ frame t s n → s + n + trailer_size ≤ length l
  locate_within q = (reader.located_inside l used number (sym q)).0

-- ---- a step of a walk
module _ (l : List ℕ) (place : ℕ) where
  pub walk_number : T (member (locate_number (walked l place)) (0 ∷ buffer_bad ∷ trailer_broken ∷ no_such_frame ∷ []))
  walk_number = numbers.walk_number l place

  pub walk_0 : locate_number (walked l place) ≡ 0 → IsFound (walked l place)
  walk_0 = numbers.walk_0 l place

  -- the frame found ends at the place given, so that a loop over the frames ends
  pub walk_back : {t : Tag} {s n : ℕ} → walked l place ≡ frame t s n → s + n + trailer_size ≡ place
  walk_back = reader.walked_back l place

-- ---- a step over records
module _ (l : List ℕ) (end place : ℕ) where
  pub step_number_lem : T (member (step_number (next_record l end place)) (0 ∷ buffer_bad ∷ record_broken ∷ no_such_record ∷ []))
  step_number_lem = numbers.step_number_lem l end place

  pub step_0 : step_number (next_record l end place) ≡ 0 → IsStep (next_record l end place)
  step_0 = numbers.step_0 l end place

  -- the next place lies ahead and not behind the end, so that a loop over the records ends; and a memory record's bytes
  -- end there
  pub step_memory : {a n p q : ℕ} → next_record l end place ≡ Memory a n p q → (place < q) × (q ≤ end) × (p + n ≤ length l)
  step_memory e = let w = reader.memory_step l end place e in (w.0, w.2, omega (arith, w))

  pub step_variable : {i x q : ℕ} → next_record l end place ≡ Variable i x q → (place < q) × (q ≤ end)
  step_variable e = let w = reader.variable_step l end place e in (w.0, w.1)
