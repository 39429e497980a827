-- What the numbers of the reader's functions say by themselves.
use mathlib.Core.Bool.{Bool, true, false, ◌||◌}
use mathlib.Core.List.{List, [], ◌∷◌}
use mathlib.Core.Path.{◌≡◌, refl}
use Prim.Native.Nat.{ℕ}
use lib.Dec.{T, eqb}
use Rattle.refusals.specs.Refusal.{Refusal}
use Rattle.reader.specs.Located.{Located, frame, refused, located, walked}
use Rattle.reader.specs.Read.{Read, memory_read, variable_read, refused_read, reading, Counted, counted, refused_count, counting}
use Rattle.reader.proofs.Promises as page
use Rattle.logic.specs.Tests.{member}
use Rattle.refusals.specs.Numbers.{buffer_bad, trailer_broken, record_broken, no_such_frame, no_such_record}
use Rattle.reader.specs.NextRecord.{RecordStep, Memory, Variable, Refused, next_record}
use Rattle.lilivrez_frames.specs.FrameValues.{IsRead, IsCounted, IsFound, IsStep, read_number_of, count_number, locate_number, step_number}

or_right : (a b : Bool) → T b → T (a || b)
or_right true b h = tt
or_right false b h = h

-- ---- a reading
module _ (l : List ℕ) (used number i : ℕ) where
  abbrev of_read : List ℕ
  of_read = buffer_bad ∷ trailer_broken ∷ record_broken ∷ no_such_frame ∷ no_such_record ∷ []

  read_in : (x : Read) → reading l used number i ≡ x → T (member (read_number_of x) (0 ∷ of_read))
  unfolding read_number_of
  read_in (memory_read t a n p) q = tt
  read_in (variable_read t v x) q = tt
  read_in (refused_read r) q = or_right (eqb r.number 0) (member r.number of_read) (page.read_number (λ (r : ℕ). member r of_read) l tt tt tt tt tt used number i q)

  pub read_number : T (member (read_number_of (reading l used number i)) (0 ∷ of_read))
  read_number = read_in (reading l used number i) refl

  read_zero : (x : Read) → reading l used number i ≡ x → read_number_of x ≡ 0 → IsRead x
  unfolding read_number_of
  read_zero (memory_read t a n p) q z = tt
  read_zero (variable_read t v x) q z = tt
  read_zero (refused_read r) q z = let e : r.number ≡ 0 = z in rw e at (page.read_number (λ (r : ℕ). member r of_read) l tt tt tt tt tt used number i q)

  pub read_0 : read_number_of (reading l used number i) ≡ 0 → IsRead (reading l used number i)
  read_0 = read_zero (reading l used number i) refl

-- ---- a count
module _ (l : List ℕ) (used number : ℕ) where
  abbrev of_count : List ℕ
  of_count = buffer_bad ∷ trailer_broken ∷ record_broken ∷ no_such_frame ∷ []

  count_in_lem : (x : Counted) → counting l used number ≡ x → T (member (count_number x) (0 ∷ of_count))
  unfolding count_number
  count_in_lem (counted t s n c) q = tt
  count_in_lem (refused_count r) q = or_right (eqb r.number 0) (member r.number of_count) (page.count_number_lem (λ (r : ℕ). member r of_count) l tt tt tt tt used number q)

  pub count_number_lem : T (member (count_number (counting l used number)) (0 ∷ of_count))
  count_number_lem = count_in_lem (counting l used number) refl

  count_zero : (x : Counted) → counting l used number ≡ x → count_number x ≡ 0 → IsCounted x
  unfolding count_number
  count_zero (counted t s n c) q z = tt
  count_zero (refused_count r) q z = let e : r.number ≡ 0 = z in rw e at (page.count_number_lem (λ (r : ℕ). member r of_count) l tt tt tt tt used number q)

  pub count_0 : count_number (counting l used number) ≡ 0 → IsCounted (counting l used number)
  count_0 = count_zero (counting l used number) refl

-- ---- a frame that is looked for: any answer x whose refusals have one of these numbers
abbrev of_locate : List ℕ
of_locate = buffer_bad ∷ trailer_broken ∷ no_such_frame ∷ []

module _ (x : Located) (few : (r : Refusal) → x ≡ refused r → T (member r.number of_locate)) where
  found_in : (y : Located) → x ≡ y → T (member (locate_number y) (0 ∷ of_locate))
  unfolding locate_number
  found_in (frame t s n) q = tt
  found_in (refused r) q = or_right (eqb r.number 0) (member r.number of_locate) (few r q)

  found_number : T (member (locate_number x) (0 ∷ of_locate))
  found_number = found_in x refl

  found_zero : (y : Located) → x ≡ y → locate_number y ≡ 0 → IsFound y
  unfolding locate_number
  found_zero (frame t s n) q z = tt
  found_zero (refused r) q z = let e : r.number ≡ 0 = z in rw e at (few r q)

  found_0 : locate_number x ≡ 0 → IsFound x
  found_0 = found_zero x refl

-- by its number
module _ (l : List ℕ) (used number : ℕ) where
  pub locate_number_lem : T (member (locate_number (located l used number)) (0 ∷ of_locate))
  locate_number_lem = found_number (located l used number) (λ r q. page.located_number (λ (r : ℕ). member r of_locate) l tt tt tt used number q)

  pub locate_0 : locate_number (located l used number) ≡ 0 → IsFound (located l used number)
  locate_0 = found_0 (located l used number) (λ r q. page.located_number (λ (r : ℕ). member r of_locate) l tt tt tt used number q)

-- by a step of a walk
module _ (l : List ℕ) (place : ℕ) where
  pub walk_number : T (member (locate_number (walked l place)) (0 ∷ of_locate))
  walk_number = found_number (walked l place) (λ r q. page.walked_number (λ (r : ℕ). member r of_locate) l tt tt tt place q)

  pub walk_0 : locate_number (walked l place) ≡ 0 → IsFound (walked l place)
  walk_0 = found_0 (walked l place) (λ r q. page.walked_number (λ (r : ℕ). member r of_locate) l tt tt tt place q)

-- ---- a step over records
module _ (l : List ℕ) (end place : ℕ) where
  abbrev of_step : List ℕ
  of_step = buffer_bad ∷ record_broken ∷ no_such_record ∷ []

  step_in : (x : RecordStep) → next_record l end place ≡ x → T (member (step_number x) (0 ∷ of_step))
  unfolding step_number
  step_in (Memory a n p q) e = tt
  step_in (Variable i x q) e = tt
  step_in (Refused r) e = or_right (eqb r.number 0) (member r.number of_step) (page.next_number (λ (r : ℕ). member r of_step) l tt tt tt end place e)

  pub step_number_lem : T (member (step_number (next_record l end place)) (0 ∷ of_step))
  step_number_lem = step_in (next_record l end place) refl

  step_zero : (x : RecordStep) → next_record l end place ≡ x → step_number x ≡ 0 → IsStep x
  unfolding step_number
  step_zero (Memory a n p q) e z = tt
  step_zero (Variable i x q) e z = tt
  step_zero (Refused r) e z = let f : r.number ≡ 0 = z in rw f at (page.next_number (λ (r : ℕ). member r of_step) l tt tt tt end place e)

  pub step_0 : step_number (next_record l end place) ≡ 0 → IsStep (next_record l end place)
  step_0 = step_zero (next_record l end place) refl
