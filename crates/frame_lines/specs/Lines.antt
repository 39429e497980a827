-- The lines for a frame, for a record, and for what was shown.
use Rattle.std.specs.Prelude.{ℕ, cond, List, [], ◌++◌, length, ◌==◌}
use Rattle.text_buffer.specs.Text.{bytes_of}
use Rattle.text_buffer.specs.Decimal.{decimal}
use Rattle.refusals.specs.Refusal.{Refusal}
use Rattle.frames.specs.declared.Tag.{Tag}
use Rattle.frames.specs.Record.{Record, memory, variable}
use Rattle.phrases.specs.Refused.{refusal_of, refused_at}
use Rattle.reader.specs.Read.{Counted, counted, refused_count}
use Rattle.reader.specs.NextRecord.{RecordStep, Memory, Variable, Refused}
use Rattle.phrases.specs.Numbers.{count_text, hex_text, value_text}

-- `refused N at offset K: WORDS`
unfoldable pub frame_refused_text : Refusal → List ℕ
frame_refused_text r = refused_at r.number r.offset ++ bytes_of ": " ++ bytes_of (refusal_of r.number)

-- a refusal shows what was asked for
unfoldable pub no_frame_text : Refusal → ℕ → List ℕ
no_frame_text r number = frame_refused_text r ++ bytes_of "\n  asked: frame " ++ decimal number ++ bytes_of "\n"

unfoldable pub no_record_text : Refusal → ℕ → ℕ → List ℕ
no_record_text r number index =
    frame_refused_text r ++ bytes_of "\n  asked: frame " ++ decimal number ++ bytes_of ", record " ++ decimal index ++ bytes_of "\n"

-- a frame of so many records, which have so many bytes as they are encoded in the buffer
unfoldable pub some_frame_text : ℕ → Tag → ℕ → ℕ → List ℕ
some_frame_text number tag n long =
    bytes_of "frame " ++ decimal number ++ bytes_of ": tracepoint " ++ decimal tag.tracepoint ++ bytes_of ", " ++ count_text n (bytes_of "record")
    ++ bytes_of ", " ++ count_text long (bytes_of "byte") ++ bytes_of " encoded\n"

unfoldable pub memory_text : ℕ → ℕ → ℕ → List ℕ
memory_text index address long =
    bytes_of "  record " ++ decimal index ++ bytes_of ": memory at " ++ hex_text address ++ bytes_of ", " ++ count_text long (bytes_of "byte") ++ bytes_of "\n"

unfoldable pub variable_record_text : ℕ → ℕ → ℕ → List ℕ
variable_record_text index number value =
    bytes_of "  record " ++ decimal index ++ bytes_of ": variable " ++ decimal number ++ bytes_of " = " ++ value_text value ++ bytes_of "\n"

-- the line for frame `number`, by what the reader answers
unfoldable pub frame_text : ℕ → Counted → List ℕ
frame_text number (counted tag start long n) = some_frame_text number tag n long
frame_text number (refused_count r) = no_frame_text r number

-- the line for record `index` of its frame, by what the record walker tells; none where there is no record
unfoldable pub record_text : ℕ → RecordStep → List ℕ
record_text index (Memory address long place next) = memory_text index address long
record_text index (Variable number value next) = variable_record_text index number value
record_text index (Refused r) = []

-- the same, of the record itself
abbrev pub line_of : ℕ → Record → List ℕ
line_of index (memory address bytes) = memory_text index address (length bytes)
line_of index (variable number value) = variable_record_text index number value

-- the last line: how many frames or records were shown, and how many of them refused
unfoldable pub completed_frames_text : ℕ → List ℕ → ℕ → List ℕ
completed_frames_text n word refused =
    cond (refused == 0)
    (bytes_of "completed: " ++ count_text n word ++ bytes_of "\n")
    (bytes_of "completed: " ++ count_text n word ++ bytes_of ", " ++ decimal refused ++ bytes_of " of them refused\n")
