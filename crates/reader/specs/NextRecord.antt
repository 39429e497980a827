-- The record walker's step: from a place inside a frame to the record there and the next place. `end` is where the
-- frame's records end: its start and the length of its records, as document 01's walker tells them ("Frames").
use Rattle.std.specs.Prelude.{cond, List, [], ◌∷◌, ◌≡◌, ℕ, ◌+◌, ◌-◌, length, take, drop, leb}
use Rattle.refusals.specs.Numbers.{buffer_bad, record_broken, no_such_record}
use Rattle.refusals.specs.Refusal.{Refusal, refusal}
use Rattle.frames.specs.Buffer.{unfit}
use Rattle.frames.specs.Record.{Record, memory, variable, size, Decoded, found, broken, decode}

-- the record at a place, or why there is none
pub data AtPlace : Type 0 where
  record_there : Record → AtPlace
  refused_there : Refusal → AtPlace

-- "memory lengths 1 or more, variables below 64: else 23 at the first bad record"
abbrev pub decoded_at : ℕ → Decoded → AtPlace
decoded_at place (found r) = record_there r
decoded_at place broken = refused_there (refusal record_broken place)

-- "buffer over 65,536 or used beyond its length" is 15; behind the last record there is none, 25; and the bytes from
-- the place to the end begin with a record, or with a broken one
unfoldable pub record_at : List ℕ → ℕ → ℕ → AtPlace
record_at buffer end place =
    cond (unfit buffer end) (refused_there (refusal buffer_bad 0))
    (cond (leb end place) (refused_there (refusal no_such_record place))
    (decoded_at place (decode (take (end - place) (drop place buffer)))))

-- ---- what is told of it, and the next place, behind it
pub data RecordStep : Type 0 where
  -- address, length, place of the bytes in the buffer, next place
  Memory : ℕ → ℕ → ℕ → ℕ → RecordStep
  -- number, value, next place
  Variable : ℕ → ℕ → ℕ → RecordStep
  Refused : Refusal → RecordStep

-- a memory record's bytes stand behind 4d, the address (8) and the length (2)
abbrev pub step_over : ℕ → Record → RecordStep
step_over place (memory address bytes) = Memory address (length bytes) (place + 11) (place + size (memory address bytes))
step_over place (variable number value) = Variable number value (place + size (variable number value))

abbrev pub step_at : ℕ → AtPlace → RecordStep
step_at place (record_there r) = step_over place r
step_at place (refused_there r) = Refused r

unfoldable pub next_record : List ℕ → ℕ → ℕ → RecordStep
next_record buffer end place = step_at place (record_at buffer end place)

-- ---- a walk over records: the steps from a place on give exactly these records, each at its place, and then are
-- refused
pub data RecordsFrom (buffer : List ℕ) (end : ℕ) : ℕ → List Record → Refusal → Type 0 where
  stops : {place : ℕ} {r : Refusal} → record_at buffer end place ≡ refused_there r → RecordsFrom buffer end place [] r
  goes : {place : ℕ} {x : Record} {rs : List Record} {r : Refusal} → record_at buffer end place ≡ record_there x
      → RecordsFrom buffer end (place + size x) rs r → RecordsFrom buffer end place (x ∷ rs) r
