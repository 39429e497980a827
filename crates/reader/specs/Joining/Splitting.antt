-- Between `divide` and its callers: the number of records, and the offset of record number i, where there is one.
-- Between `found_at` and its callers: what is told of a record.
use Rattle.std.specs.Prelude.{Option, Some, None, Result, Ok, Err, List, [], ◌∷◌, ◌≡◌, ℕ, zero, suc, ◌+◌, length}
use Rattle.refusals.specs.Numbers.{record_broken}
use Rattle.refusals.specs.Refusal.{refusal, told}
use Rattle.refusals.specs.declared.Refusal.{Refusal}
use Rattle.frames.specs.Record.{Record, memory, variable, size, Decoded, found, broken}
use Rattle.frames.specs.Division.{Division, records, broken_at}
use Rattle.reader.specs.declared.Split.{Split}
use Rattle.reader.specs.declared.Found.{Found}
use Rattle.reader.specs.declared.Found.TheVariants.{Memory, Variable}

abbrev pub offset_in : ℕ → ℕ → List Record → Option ℕ
offset_in o i [] = None
offset_in o zero (r ∷ rs) = Some o
offset_in o (suc i) (r ∷ rs) = offset_in (o + size r) i rs

-- bytes that stand at `start`, divided, with record number i noted
abbrev pub SplitAs : ℕ → ℕ → Division → Result Split Refusal → Type 0
SplitAs start i (records rs) (Ok s) = (s.count ≡ length rs) × (s.found ≡ offset_in 0 i rs)
SplitAs start i (broken_at k) (Err x) = told x ≡ refusal record_broken (start + k)
SplitAs start i (records rs) (Err x) = ⊥
SplitAs start i (broken_at k) (Ok s) = ⊥

-- of the record at a place: a memory record's bytes stand behind 4d, the address (8) and the length (2)
abbrev pub found_of : ℕ → Record → Found
found_of place (memory address bytes) = Memory address (length bytes) (place + 11)
found_of place (variable number value) = Variable number value

abbrev pub FoundAt : ℕ → Decoded → Found → Type 0
FoundAt place (found r) x = x ≡ found_of place r
FoundAt place broken x = ⊥
