-- What users of `verify_lines` may cite. The contracts of src/ are the rest: each function appends the text that specs/
-- defines.
use Prim.Native.Nat.{ℕ, ◌+◌, ◌*◌, ◌/◌, ◌^◌, ◌≤◌, ◌<◌}
use mathlib.Core.Bool.{Bool, true}
use mathlib.Core.List.{List, ◌++◌}
use mathlib.Core.Path.{◌≡◌}
use lib.ListN.{length, take}
use Rattle.text_buffer.specs.Text.{Appends}
use Rattle.verdict.specs.Verdict.{accepted, verdict}
use Rattle.listing.specs.Listing.{bytes, read_text}
use Rattle.heights.specs.Arrivals.{ArrivalsBy}
use Rattle.encoding.specs.Ranges.{AllBytes}
use Rattle.verify_lines.specs.Bytes.{bytes_text}
use Rattle.verify_lines.specs.Listed.{answer_text}
use Rattle.verify_lines.proofs.Back as back
use Rattle.verify_lines.proofs.Lines as lines
use Rattle.verify_lines.proofs.Sizes as sizes

-- `AllBytes` holds of every slice of bytes that is lent: the contract of `encoding::bytes_known`, `lent_bytes` on the
-- page of the demands.

-- ---- the whole answer of `verify` on bytes e: a buffer of 98,304 bytes has room for it, and holds it whole
module _ (e : List ℕ) (low : AllBytes e) (size : length e < 2 ^ 64) (hs : List ℕ) (r : ArrivalsBy e (verdict e) hs) (listed : Bool) where
  pub answer_length : length (answer_text e (verdict e) hs listed) ≤ 98304
  answer_length = sizes.answer_length e low size hs r listed

  pub answer_whole : (b b' : List ℕ) (n : ℕ) → 98304 ≤ length b' → Appends b 0 (answer_text e (verdict e) hs listed) b' n
      → take n b' ≡ answer_text e (verdict e) hs listed
  answer_whole = sizes.answer_whole e low size hs r listed

-- the bytes of an expression: two characters a byte, and seven more for each line of 40
pub bytes_length : (e : List ℕ) → length (bytes_text e) ≡ 2 * length e + 7 * ((length e + 39) / 40)
bytes_length = lines.bytes_length

-- ---- what `verify --list` prints of an accepted expression is read back as its bytes, whatever heights stand beside
-- the instructions
module _ (e : List ℕ) (low : AllBytes e) {n g l : ℕ} (q : verdict e ≡ accepted n g l) (hs : List ℕ) where
  pub answer_read_back : read_text (answer_text e (accepted n g l) hs true) ≡ bytes e
  answer_read_back = back.answer_back e low q hs

  -- and with the lines of its bytes, which `--from-gdb` prints behind it
  pub answer_bytes_read_back : read_text (answer_text e (accepted n g l) hs true ++ bytes_text e) ≡ bytes e
  answer_bytes_read_back = back.answer_bytes_back e low q hs
