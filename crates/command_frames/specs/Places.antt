-- Where the records of a frame are, by what the reader answers.
use Rattle.std.specs.Prelude.{ℕ, ◌+◌}
use Rattle.reader.specs.Read.{Counted, counted, refused_count}
use Rattle.reader.specs.NextRecord.{RecordStep, Memory, Variable, Refused}

-- of a frame: nowhere, where it is refused
abbrev pub start_in : Counted → ℕ
start_in (counted tag start long n) = start
start_in (refused_count r) = 0

abbrev pub end_in : Counted → ℕ
end_in (counted tag start long n) = start + long
end_in (refused_count r) = 0

-- behind the record at a place; at the end of the records where there is none
abbrev pub behind_in : ℕ → RecordStep → ℕ
behind_in end (Memory address long bytes next) = next
behind_in end (Variable number value next) = next
behind_in end (Refused r) = end
