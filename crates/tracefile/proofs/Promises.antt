-- What users of `tracefile` may cite. The contracts of src/ are the rest: each function appends the bytes that specs/
-- defines.
use Rattle.std.proofs.Common.{◌≡◌, ℕ, ◌+◌, ◌≤◌, List, ◌++◌, length, ap}
use Rattle.encoding.specs.LittleEndian.{little_bytes}
use Rattle.encoding.specs.Ranges.{AllBytes}
use Rattle.encoding.specs.Written.{written_at}
use Rattle.sizes.specs.Sizes.{buffer_most}
use Rattle.frames.specs.Record.{Record, encode, encode_all, AllWellFormed}
use Rattle.frames.specs.Frame.{encode_frame}
use Rattle.frames.specs.Trailer.{TagFits}
use Rattle.frames.specs.declared.Tag.{Tag}
use Rattle.reader.specs.Located.{walked}
use Rattle.reader.specs.Framed.{frame_read, framed}
use Rattle.reader.specs.NextRecord.{record_there, record_at, next_record}
use Rattle.reader.proofs.Promises.{newest_framed}
use Rattle.tracefile.specs.Frames.{exported, exported_all, frame_bytes, opening_bytes, record_bytes, records_from}
use Rattle.tracefile.proofs.Pieces as pieces

-- `AllBytes` holds of every slice of bytes that is lent: the contract of `encoding::bytes_known`, `lent_bytes` on the
-- page of the demands.

-- the piece of a record is the record, with the variable's number one higher
pub one_piece : (l : List ℕ) (end : ℕ) → AllBytes l → (place : ℕ) (x : Record) → record_at l end place ≡ record_there x → record_bytes l (next_record l end place) ≡ encode (exported x)
one_piece = pieces.one_piece

-- the pieces of a frame that is read, its opening and as many records as it has from its start on, are the frame
pub frame_pieces : (l : List ℕ) (end : ℕ) {t : Tag} {s : ℕ} {rs : List Record} → AllBytes l → framed l end 0 ≡ frame_read t s rs
    → opening_bytes (walked l end) ++ records_from l (s + length (encode_all rs)) s (length rs) ≡ frame_bytes (framed l end 0)
frame_pieces l end low q = pieces.frame_pieces l end low q

-- a frame of the records rs and with the tag t, written behind the u used bytes of the buffer l, and counted as used:
-- in the file it is its tracepoint number, the length of its records, and exactly its records, with variable numbers
-- one higher
module _ (l : List ℕ) (u : ℕ) (t : Tag) (rs : List Record) (small : length l ≤ buffer_most) (fits : u + length (encode_frame t rs) ≤ length l) (low : TagFits t) (well : AllWellFormed rs) where
  abbrev after : List ℕ
  after = written_at l u (encode_frame t rs)

  abbrev used : ℕ
  used = u + length (encode_frame t rs)

  pub newest_in_file : frame_bytes (framed after used 0) ≡ little_bytes 2 t.tracepoint ++ little_bytes 4 (length (encode_all rs)) ++ encode_all (exported_all rs)
  newest_in_file = ap frame_bytes (newest_framed l u t rs small fits low well)
