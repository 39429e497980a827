-- What the frame reader answers, as numbers: what `lilivrez_read`, `lilivrez_count`, `lilivrez_locate`, `lilivrez_walk`
-- and `lilivrez_next_record` return and store. Document 01, "Frames".
use Rattle.std.specs.Prelude.{List, [], ◌∷◌, ◌++◌, ℕ}
use Rattle.reader.specs.Located.{Located, frame, refused, place_after}
use Rattle.reader.specs.Read.{Read, memory_read, variable_read, refused_read, Counted, counted, refused_count}
use Rattle.reader.specs.NextRecord.{RecordStep, Memory, Variable, Refused}

-- the record was read, the records were counted, the frame was found, the next record was read
abbrev pub IsRead : Read → Type 0
IsRead (memory_read t a n p) = Unit {0}
IsRead (variable_read t i x) = Unit {0}
IsRead (refused_read r) = ⊥

abbrev pub IsCounted : Counted → Type 0
IsCounted (counted t s n c) = Unit {0}
IsCounted (refused_count r) = ⊥

abbrev pub IsFound : Located → Type 0
IsFound (frame t s n) = Unit {0}
IsFound (refused r) = ⊥

abbrev pub IsStep : RecordStep → Type 0
IsStep (Memory a n p q) = Unit {0}
IsStep (Variable i x q) = Unit {0}
IsStep (Refused r) = ⊥

-- the number of the refusal: 0 where there is none
unfoldable pub read_number_of : Read → ℕ
read_number_of (memory_read t a n p) = 0
read_number_of (variable_read t i x) = 0
read_number_of (refused_read r) = r.number

unfoldable pub count_number : Counted → ℕ
count_number (counted t s n c) = 0
count_number (refused_count r) = r.number

unfoldable pub locate_number : Located → ℕ
locate_number (frame t s n) = 0
locate_number (refused r) = r.number

unfoldable pub step_number : RecordStep → ℕ
step_number (Memory a n p q) = 0
step_number (Variable i x q) = 0
step_number (Refused r) = r.number

-- the offset of the refusal, then "the frame's tracepoint number and the record's kind" (1 memory, 2 variable), "with
-- the address, the length and the place of its bytes in the buffer, or the variable's number and value": 0 for what is
-- not there
unfoldable pub read_values : Read → List ℕ
read_values (memory_read t a n p) = 0 ∷ t.tracepoint ∷ 1 ∷ a ∷ n ∷ p ∷ []
read_values (variable_read t i x) = 0 ∷ t.tracepoint ∷ 2 ∷ i ∷ x ∷ 0 ∷ []
read_values (refused_read r) = r.offset ∷ 0 ∷ 0 ∷ 0 ∷ 0 ∷ 0 ∷ []

-- the offset of the refusal, then the tracepoint number, the start, the length of the records, their number
unfoldable pub count_values : Counted → List ℕ
count_values (counted t s n c) = 0 ∷ t.tracepoint ∷ s ∷ n ∷ c ∷ []
count_values (refused_count r) = r.offset ∷ 0 ∷ 0 ∷ 0 ∷ 0 ∷ []

-- the offset of the refusal, then the frame's "tracepoint number, start and record length"
unfoldable pub locate_values : Located → List ℕ
locate_values (frame t s n) = 0 ∷ t.tracepoint ∷ s ∷ n ∷ []
locate_values (refused r) = r.offset ∷ 0 ∷ 0 ∷ 0 ∷ []

-- the same of a step, then the walker's place after it
unfoldable pub walk_values : ℕ → Located → List ℕ
walk_values place x = locate_values x ++ (place_after place x ∷ [])

-- the offset of the refusal, then the record's kind (1 memory, 2 variable), the address, the length and the place of
-- its bytes, or the variable's number and value, and then the next place: the place given where refused
unfoldable pub step_values : ℕ → RecordStep → List ℕ
step_values place (Memory a n p q) = 0 ∷ 1 ∷ a ∷ n ∷ p ∷ q ∷ []
step_values place (Variable i x q) = 0 ∷ 2 ∷ i ∷ x ∷ 0 ∷ q ∷ []
step_values place (Refused r) = r.offset ∷ 0 ∷ 0 ∷ 0 ∷ 0 ∷ place ∷ []
