-- Between the functions: what a writer has answered and left, and what a reader of a record or of a trailer answers,
-- in plain numbers.
use Rattle.std.specs.Prelude.{Option, Some, None, List, ◌≡◌, ℕ, ◌+◌, ◌≤◌, length}
use Rattle.encoding.specs.Written.{written_at}
use Rattle.frames.specs.Record.{Record, memory, variable, size, Decoded, found, broken}
use Rattle.frames.specs.Trailer.{TrailerRead, trailer, broken_trailer}
use Rattle.frames.specs.declared.Record as code
use Rattle.frames.specs.declared.Record.TheVariants.{Memory, Variable}
use Rattle.frames.specs.declared.trailer.Trailer.{Trailer}

-- a writer gave this answer and left these bytes
pub record Leaves (w : Option ℕ × List ℕ) (r : Option ℕ) (l : List ℕ) : Type 0 where
  pub answer : r ≡ w.0
  pub bytes : l ≡ w.1

-- e stands whole behind the used bytes, and n counts its bytes
pub record PutWhole (buffer : List ℕ) (used : ℕ) (e : List ℕ) (n : ℕ) (l : List ℕ) : Type 0 where
  pub fits : used + length e ≤ length buffer
  pub count : n ≡ length e
  pub bytes : l ≡ written_at buffer used e

-- ---- readers
-- the number of bytes of the record that is found
abbrev pub size_of : Decoded → Option ℕ
size_of (found r) = Some (size r)
size_of broken = None

-- of a memory record the address and the length, of a variable record the number and the value
abbrev pub fields_of : Record → code.Record
fields_of (memory address bytes) = Memory address (length bytes)
fields_of (variable number value) = Variable number value

-- a record is found, and this is what is told of it
abbrev pub Tells : code.Record → Decoded → Type 0
Tells x (found r) = x ≡ fields_of r
Tells x broken = ⊥

-- of a trailer the tag and the length of the records
abbrev pub ending_of : TrailerRead → Option Trailer
ending_of (trailer tag long) = Some (record { tag = tag; length = long })
ending_of broken_trailer = None
