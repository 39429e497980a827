-- What the records of a run hold (document 01, "Meanings the manual leaves open": "readable exactly if all of it lies
-- in one span").
use Rattle.std.specs.Prelude.{List, [], ◌∷◌, ◌⊎◌, ℕ, ◌≤◌, length}
use Rattle.sizes.specs.Sizes.{tracepoint_most}
use Rattle.encoding.specs.Ranges.{AllBytes, AllWords}
use Rattle.frames.specs.Record.{Record, memory, variable}
use Rattle.frames.specs.Trailer.{tag_of}
use Rattle.frames.specs.Frame.{encode_frame}
use Rattle.memory.specs.Spans.{Target}
use Rattle.memory.specs.Fetch.{PartOf}
use Rattle.machine.specs.Given.{Given}
use Rattle.machine.specs.Machine.{Ended, completed, stopped}

-- a memory record holds the bytes of the one span that holds every address of its range; a variable record holds no
-- memory
abbrev pub FromTarget : Target → Record → Type 0
FromTarget t (memory a bytes) = PartOf t.image a (length bytes) bytes ⊎ PartOf t.work a (length bytes) bytes
FromTarget t (variable n x) = Unit {0}

abbrev pub AllFromTarget : Target → List Record → Type 0
AllFromTarget t [] = Unit {0}
AllFromTarget t (r ∷ rs) = FromTarget t r × AllFromTarget t rs

-- the records made, whether the run completed or stopped
unfoldable pub records_of : Ended → List Record
records_of (completed a n v rs) = rs
records_of (stopped r rs) = rs

-- the frame of these records, of the tracepoint given
abbrev pub frame_of : Given → Ended → List ℕ
frame_of g o = encode_frame (tag_of g.tracepoint) (records_of o)

-- what the types of a run's inputs say: expression and spans are bytes, registers and variables are words of 64 bits
pub record Typed (g : Given) : Type 0 where
  pub expression : AllBytes g.expression
  pub registers : AllWords g.registers
  pub variables : AllWords g.variables
  pub image : AllBytes g.target.image.bytes
  pub work : AllBytes g.target.work.bytes
  -- "Tracepoint numbers: 0 to 65,535."
  pub tracepoint : g.tracepoint ≤ tracepoint_most
