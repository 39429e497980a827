-- The numbers of the reader's refusals: what holds of the few numbers that a function can give holds of the number of
-- each of its refusals.
use mathlib.Core.Bool.{Bool}
use mathlib.Core.List.{List, [], ◌∷◌}
use mathlib.Core.Path.{◌≡◌}
use Prim.Native.Nat.{ℕ, zero, suc, ◌+◌}
use lib.ListN.{take, drop}
use lib.Dec.{T}
use Rattle.refusals.specs.Refusal.{Refusal}
use Rattle.refusals.specs.Numbers.{buffer_bad, trailer_broken, record_broken, no_such_frame, no_such_record}
use Rattle.frames.specs.declared.Tag.{Tag}
use Rattle.frames.specs.Record.{Record, memory, variable, size}
use Rattle.frames.specs.Division.{Division, records, broken_at, divide}
use Rattle.reader.specs.Located.{Located, frame, refused, located, walked}
use Rattle.reader.specs.Framed.{FrameRead, frame_read, refused_frame, framed_by, framed_at_of, framed}
use Rattle.reader.specs.Read.{Read, memory_read, variable_read, refused_read, told, record_read, record_in, reading, Counted, counted, refused_count, count_in, counting}
use Rattle.reader.specs.NextRecord.{RecordStep, Memory, Variable, Refused, step_over, next_record}
use Rattle.reader.proofs.Stepping.{by_place}
use Rattle.reader.proofs.Locating.{located_all, walked_all}

module _ (p : ℕ → Bool) (l : List ℕ) (h15 : T (p buffer_bad)) (h22 : T (p trailer_broken)) (h24 : T (p no_such_frame)) where
  abbrev OfLocated : Located → Type 0
  OfLocated (frame t s n) = Unit {0}
  OfLocated (refused r) = T (p r.number)

  located_in : (used number : ℕ) → OfLocated (located l used number)
  located_in = located_all OfLocated l h15 (λ end. h22) h24 (λ end t n d h. tt)

  pub located_number : (used number : ℕ) {r : Refusal} → located l used number ≡ refused r → T (p r.number)
  located_number used number q = rw q at (located_in used number)

  walked_in : (place : ℕ) → OfLocated (walked l place)
  walked_in = walked_all OfLocated l h15 (λ end. h22) h24 (λ end t n d h. tt)

  pub walked_number : (place : ℕ) {r : Refusal} → walked l place ≡ refused r → T (p r.number)
  walked_number place q = rw q at (walked_in place)

  module _ (h23 : T (p record_broken)) where
    abbrev OfFrame : FrameRead → Type 0
    OfFrame (frame_read t s rs) = Unit {0}
    OfFrame (refused_frame r) = T (p r.number)

    framed_by_lem : (t : Tag) (s : ℕ) (d : Division) → OfFrame (framed_by t s d)
    framed_by_lem t s (records rs) = tt
    framed_by_lem t s (broken_at k) = h23

    framed_at : (x : Located) → OfLocated x → OfFrame (framed_at_of l x)
    framed_at (frame t s n) h = framed_by_lem t s (divide (take n (drop s l)))
    framed_at (refused r) h = h

    framed_in : (used number : ℕ) → OfFrame (framed l used number)
    unfolding framed
    framed_in used number = framed_at (located l used number) (located_in used number)

    pub framed_number : (used number : ℕ) {r : Refusal} → framed l used number ≡ refused_frame r → T (p r.number)
    framed_number used number q = rw q at (framed_in used number)

    abbrev OfCounted : Counted → Type 0
    OfCounted (counted t s n c) = Unit {0}
    OfCounted (refused_count r) = T (p r.number)

    count_by : (x : FrameRead) → OfFrame x → OfCounted (count_in x)
    count_by (frame_read t s rs) h = tt
    count_by (refused_frame r) h = h

    count_in_lem : (used number : ℕ) → OfCounted (counting l used number)
    unfolding counting
    count_in_lem used number = count_by (framed l used number) (framed_in used number)

    pub count_number_lem : (used number : ℕ) {r : Refusal} → counting l used number ≡ refused_count r → T (p r.number)
    count_number_lem used number q = rw q at (count_in_lem used number)

    module _ (h25 : T (p no_such_record)) where
      abbrev OfRead : Read → Type 0
      OfRead (memory_read t a n b) = Unit {0}
      OfRead (variable_read t i x) = Unit {0}
      OfRead (refused_read r) = T (p r.number)

      told_in : (t : Tag) (o : ℕ) (r : Record) → OfRead (told t o r)
      told_in t o (memory a bytes) = tt
      told_in t o (variable i x) = tt

      record_in_lem : (t : Tag) (s o i : ℕ) (rs : List Record) → OfRead (record_read t s o i rs)
      record_in_lem t s o i [] = h25
      record_in_lem t s o zero (r ∷ rs) = told_in t o r
      record_in_lem t s o (suc i) (r ∷ rs) = record_in_lem t s (o + size r) i rs

      read_by : (i : ℕ) (x : FrameRead) → OfFrame x → OfRead (record_in i x)
      read_by i (frame_read t s rs) h = record_in_lem t s s i rs
      read_by i (refused_frame r) h = h

      read_in : (used number i : ℕ) → OfRead (reading l used number i)
      unfolding reading
      read_in used number i = read_by i (framed l used number) (framed_in used number)

      pub read_number : (used number i : ℕ) {r : Refusal} → reading l used number i ≡ refused_read r → T (p r.number)
      read_number used number i q = rw q at (read_in used number i)

-- ---- a step over records
module _ (p : ℕ → Bool) (l : List ℕ) (h15 : T (p buffer_bad)) (h23 : T (p record_broken)) (h25 : T (p no_such_record)) where
  abbrev OfStep : RecordStep → Type 0
  OfStep (Memory a n b q) = Unit {0}
  OfStep (Variable i x q) = Unit {0}
  OfStep (Refused r) = T (p r.number)

  over_in : (place : ℕ) (x : Record) → OfStep (step_over place x)
  over_in place (memory a bytes) = tt
  over_in place (variable i x) = tt

  step_in : (end place : ℕ) → OfStep (next_record l end place)
  unfolding next_record
  step_in end place =
      by_place l end place (λ e. rw e h15) (λ u h e. rw e h25) (λ u h e. rw e h23) (λ x u h f e. rw e (over_in place x))

  pub next_number : (end place : ℕ) {r : Refusal} → next_record l end place ≡ Refused r → T (p r.number)
  next_number end place q = rw q at (step_in end place)
