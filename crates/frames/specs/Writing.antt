-- "The runner writes records into the free part of the buffer" (document 01, "Frames"); 21 is "record, or trailer at
-- end, longer than the free bytes".
use Rattle.std.specs.Prelude.{Bool, true, cond, ◌&&◌, Option, Some, None, List, ℕ, ◌+◌, length, leb}
use Rattle.sizes.specs.Sizes.{record_most}
use Rattle.encoding.specs.Written.{written_at}
use Rattle.frames.specs.Record.{Record, memory, variable, encode}
use Rattle.frames.specs.Trailer.{encode_trailer}
use Rattle.frames.specs.declared.Tag.{Tag}

-- e put into a buffer of which `used` bytes are taken: how many bytes are written, and what the buffer then holds. It
-- is written whole; or, where it is longer than the free bytes or has no encoding, not one byte of it.
unfoldable pub written : Bool → List ℕ → ℕ → List ℕ → Option ℕ × List ℕ
written encoded buffer used e =
    cond (encoded && leb (used + length e) (length buffer)) (Some (length e), written_at buffer used e) (None, buffer)

-- a memory record has an encoding where the 2 bytes of its length can hold it
abbrev pub encodable : Record → Bool
encodable (memory address bytes) = leb (length bytes) record_most
encodable (variable number value) = true

abbrev pub written_record : List ℕ → ℕ → Record → Option ℕ × List ℕ
written_record buffer used r = written (encodable r) buffer used (encode r)

abbrev pub written_trailer : List ℕ → ℕ → Tag → ℕ → Option ℕ × List ℕ
written_trailer buffer used tag long = written true buffer used (encode_trailer tag long)
