-- What is told of a frame (document 01, "Frames"): one of its records, and how many it has.
use Rattle.std.specs.Prelude.{List, [], ◌∷◌, ℕ, zero, suc, ◌+◌, length}
use Rattle.refusals.specs.Numbers.{no_such_record}
use Rattle.refusals.specs.Refusal.{Refusal, refusal}
use Rattle.frames.specs.declared.Tag.{Tag}
use Rattle.frames.specs.Record.{Record, memory, variable, size, encode_all}
use Rattle.reader.specs.Framed.{FrameRead, frame_read, refused_frame, framed}

-- "Its answer is plain numbers: the frame's tracepoint number and the record's kind, with the address, the length and
-- the place of its bytes in the buffer, or the variable's number and value."
pub data Read : Type 0 where
  -- tag, address, length, place
  memory_read : Tag → ℕ → ℕ → ℕ → Read
  -- tag, variable's number, value
  variable_read : Tag → ℕ → ℕ → Read
  refused_read : Refusal → Read

-- of the record that begins at the offset o: its bytes stand behind 4d, the address (8) and the length (2)
abbrev pub told : Tag → ℕ → Record → Read
told tag o (memory address bytes) = memory_read tag address (length bytes) (o + 11)
told tag o (variable number value) = variable_read tag number value

-- record number i of those from the offset o on, in the frame that begins at `start`. "Then 25, at the frame's start."
abbrev pub record_read : Tag → ℕ → ℕ → ℕ → List Record → Read
record_read tag start o i [] = refused_read (refusal no_such_record start)
record_read tag start o zero (r ∷ rs) = told tag o r
record_read tag start o (suc i) (r ∷ rs) = record_read tag start (o + size r) i rs

abbrev pub record_in : ℕ → FrameRead → Read
record_in i (frame_read tag start rs) = record_read tag start start i rs
record_in i (refused_frame r) = refused_read r

-- record number i of the frame of this number
unfoldable pub reading : List ℕ → ℕ → ℕ → ℕ → Read
reading buffer used number i = record_in i (framed buffer used number)

-- ---- how many records the frame has
pub data Counted : Type 0 where
  -- tag, start, length of the records, their number
  counted : Tag → ℕ → ℕ → ℕ → Counted
  refused_count : Refusal → Counted

abbrev pub count_in : FrameRead → Counted
count_in (frame_read tag start rs) = counted tag start (length (encode_all rs)) (length rs)
count_in (refused_frame r) = refused_count r

unfoldable pub counting : List ℕ → ℕ → ℕ → Counted
counting buffer used number = count_in (framed buffer used number)
