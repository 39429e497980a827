-- The frames of GDB's trace file (the GDB manual, "Trace File Format"): tracepoint number, length of the records, the
-- records.
use Rattle.std.specs.Prelude.{ℕ, zero, suc, ◌+◌, List, [], ◌∷◌, ◌++◌, length, take, drop}
use Rattle.encoding.specs.LittleEndian.{little_bytes}
use Rattle.frames.specs.Record.{Record, memory, variable, encode, encode_all}
use Rattle.reader.specs.Located.{Located, frame, refused}
use Rattle.reader.specs.Framed.{FrameRead, frame_read, refused_frame, framed}
use Rattle.reader.specs.NextRecord.{RecordStep, Memory, Variable, Refused, next_record}

-- a record as it stands in the file: variable numbers are one higher there
abbrev pub exported : Record → Record
exported (memory address bytes) = memory address bytes
exported (variable number value) = variable (number + 1) value

abbrev pub exported_all : List Record → List Record
exported_all [] = []
exported_all (r ∷ rs) = exported r ∷ exported_all rs

-- a frame: tracepoint number (2 bytes), length of the records (4), the records
abbrev pub frame_bytes : FrameRead → List ℕ
frame_bytes (frame_read tag start rs) = little_bytes 2 tag.tracepoint ++ little_bytes 4 (length (encode_all rs)) ++ encode_all (exported_all rs)
frame_bytes (refused_frame r) = []

-- the n newest frames, the oldest of them first; then two zero bytes end the file
unfoldable pub frames_bytes : List ℕ → ℕ → ℕ → List ℕ
frames_bytes buffer used zero = 0 ∷ 0 ∷ []
frames_bytes buffer used (suc n) = frame_bytes (framed buffer used n) ++ frames_bytes buffer used n

-- ---- the pieces of a frame
-- its first bytes, by where it is
unfoldable pub opening_bytes : Located → List ℕ
opening_bytes (frame tag start long) = little_bytes 2 tag.tracepoint ++ little_bytes 4 long
opening_bytes (refused r) = []

-- a record, by what the record walker tells of it
unfoldable pub record_bytes : List ℕ → RecordStep → List ℕ
record_bytes buffer (Memory address long place next) = encode (exported (memory address (take long (drop place buffer))))
record_bytes buffer (Variable number value next) = encode (exported (variable number value))
record_bytes buffer (Refused r) = []

-- where the record behind it begins; the same place where there is none
abbrev pub place_behind : ℕ → RecordStep → ℕ
place_behind place (Memory address long bytes next) = next
place_behind place (Variable number value next) = next
place_behind place (Refused r) = place

-- n records from a place on, each where the one before it ends
abbrev pub records_from : List ℕ → ℕ → ℕ → ℕ → List ℕ
records_from buffer end place zero = []
records_from buffer end place (suc n) =
    record_bytes buffer (next_record buffer end place) ++ records_from buffer end (place_behind place (next_record buffer end place)) n
