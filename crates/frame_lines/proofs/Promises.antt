-- What users of `frame_lines` may cite. The contracts of src/ are the rest: each function appends the text that specs/
-- defines.
use Rattle.std.proofs.Common.{◌≡◌, ℕ, ◌+◌, ◌%◌, ◌^◌, ◌<◌, ◌≤◌, List, ◌∷◌, ◌++◌, length, take, drop, ap, ◌∙◌}
use Rattle.hexadecimal.specs.Hex.{whole, reading_of}
use Rattle.encoding.specs.Ranges.{AllBytes}
use Rattle.encoding.specs.Written.{written_at}
use Rattle.sizes.specs.Sizes.{buffer_most}
use Rattle.frames.specs.Record.{Record, memory, encode_all, AllWellFormed}
use Rattle.frames.specs.Frame.{encode_frame}
use Rattle.frames.specs.Trailer.{TagFits}
use Rattle.frames.specs.declared.Tag.{Tag}
use Rattle.reader.specs.NextRecord.{record_there, record_at, next_record}
use Rattle.reader.proofs.Promises.{framed_walked, newest_framed, newest_bytes}
use Rattle.frame_lines.specs.Dump.{dump_line, dump_text}
use Rattle.frame_lines.specs.Lines.{record_text, line_of}
use Rattle.frame_lines.proofs.Dumping as dumping
use Rattle.frame_lines.proofs.Showing as showing

-- `AllBytes` holds of every slice of bytes that is lent: the contract of `encoding::bytes_known`, `lent_bytes` on the
-- page of the demands.

-- characters 21 to 68 of a dump line are its hexadecimal column; read back, they are the bytes of the line
pub line_read_back : (address : ℕ) (l : List ℕ) (room : ℕ) → AllBytes l → length l ≤ 16 → length l ≤ room
    → reading_of (take 48 (drop 21 (dump_line address l))) room ≡ record { bytes = l; end = whole }
line_read_back address l room low h g = ap (λ (m : List ℕ). reading_of m room) (dumping.column_in_line address l) ∙ dumping.column_back 0 room 16 l low h g

-- the line of the record at a place tells that record
pub record_line : (l : List ℕ) (end place index : ℕ) (x : Record) → record_at l end place ≡ record_there x → record_text index (next_record l end place) ≡ line_of index x
record_line = showing.record_line

-- a frame of the records rs and with the tag t, written behind the u used bytes of the buffer l, and counted as used:
-- the dump of a memory record of it, at its place behind the records before it, shows the recorded bytes, 16 to a line,
-- each line with the address of its first byte
module _ (l : List ℕ) (u : ℕ) (t : Tag) (rs : List Record) (small : length l ≤ buffer_most) (fits : u + length (encode_frame t rs) ≤ length l) (low : TagFits t) (well : AllWellFormed rs) where
  abbrev after : List ℕ
  after = written_at l u (encode_frame t rs)

  abbrev end : ℕ
  end = u + length (encode_all rs)

  abbrev place_of : List Record → ℕ
  place_of before = u + length (encode_all before)

  pub newest_there : (before : List Record) (x : Record) (behind : List Record) → rs ≡ before ++ (x ∷ behind) → record_at after end (place_of before) ≡ record_there x
  newest_there before x behind e = showing.walk_in after end (framed_walked after (u + length (encode_frame t rs)) 0 (newest_framed l u t rs small fits low well)) before x behind e

  pub newest_dump : (before : List Record) (a : ℕ) (bytes : List ℕ) (behind : List Record) → rs ≡ before ++ (memory a bytes ∷ behind) → (o : ℕ) → o < length bytes
      → dump_text after (next_record after end (place_of before)) o ≡ dump_line ((a + o) % 2 ^ 64) (take 16 (drop o bytes))
  newest_dump before a bytes behind e o h =
      showing.record_dump after end (place_of before) a bytes (newest_there before (memory a bytes) behind e) (newest_bytes l u t rs small fits low before a bytes behind e) o h
