-- Document 01's values for each case of the code's answers.
use Rattle.std.specs.Prelude.{ℕ, Result, Ok, Err}
use Rattle.refusals.specs.Refusal.{told}
use Rattle.refusals.specs.declared.Refusal.{Refusal}
use Rattle.frames.specs.declared.Tag.{Tag}
use Rattle.reader.specs.Located.{Located, frame, refused}
use Rattle.reader.specs.Read.{Read, memory_read, variable_read, refused_read, Counted, counted, refused_count}
use Rattle.reader.specs.NextRecord.{RecordStep, Memory, Variable, Refused}
use Rattle.reader.specs.declared.Frame as code_frame
use Rattle.reader.specs.declared.Counted as code_counted
use Rattle.reader.specs.declared.Found.{Found}
use Rattle.reader.specs.declared.Found.TheVariants.{Memory as FoundMemory, Variable as FoundVariable}
use Rattle.reader.specs.declared.ReadRecord.{ReadRecord}
use Rattle.reader.specs.declared.NextRecord.{NextRecord}

abbrev pub located_of : Result code_frame.Frame Refusal → Located
located_of (Ok f) = frame f.tag f.start f.length
located_of (Err x) = refused (told x)

abbrev pub read_as : Tag → Found → Read
read_as tag (FoundMemory address long place) = memory_read tag address long place
read_as tag (FoundVariable number value) = variable_read tag number value

abbrev pub read_of : Result ReadRecord Refusal → Read
read_of (Ok r) = read_as r.tag r.record
read_of (Err x) = refused_read (told x)

abbrev pub counted_of : Result code_counted.Counted Refusal → Counted
counted_of (Ok c) = counted c.frame.tag c.frame.start c.frame.length c.records
counted_of (Err x) = refused_count (told x)

abbrev pub step_to : Found → ℕ → RecordStep
step_to (FoundMemory address long place) next = Memory address long place next
step_to (FoundVariable number value) next = Variable number value next

abbrev pub step_of : Result NextRecord Refusal → RecordStep
step_of (Ok n) = step_to n.record n.next
step_of (Err x) = Refused (told x)
