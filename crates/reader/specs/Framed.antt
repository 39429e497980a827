-- A frame, read (document 01, "Frames"): its tag, its start and its records. What it has and how many it has are said
-- of this.
use Rattle.std.specs.Prelude.{List, ℕ, ◌+◌, take, drop}
use Rattle.refusals.specs.Numbers.{record_broken}
use Rattle.refusals.specs.Refusal.{Refusal, refusal}
use Rattle.frames.specs.declared.Tag.{Tag}
use Rattle.frames.specs.Record.{Record}
use Rattle.frames.specs.Division.{Division, records, broken_at, divide}
use Rattle.reader.specs.Located.{Located, frame, refused, located}

pub data FrameRead : Type 0 where
  -- tag, start, records
  frame_read : Tag → ℕ → List Record → FrameRead
  refused_frame : Refusal → FrameRead

-- "Then the chosen frame must divide into records exactly, ..: else 23 at the first bad record."
abbrev pub framed_by : Tag → ℕ → Division → FrameRead
framed_by tag start (records rs) = frame_read tag start rs
framed_by tag start (broken_at k) = refused_frame (refusal record_broken (start + k))

abbrev pub framed_at_of : List ℕ → Located → FrameRead
framed_at_of buffer (frame tag start long) = framed_by tag start (divide (take long (drop start buffer)))
framed_at_of buffer (refused r) = refused_frame r

-- the frame of this number, where `used` bytes of the buffer are used
unfoldable pub framed : List ℕ → ℕ → ℕ → FrameRead
framed buffer used number = framed_at_of buffer (located buffer used number)
