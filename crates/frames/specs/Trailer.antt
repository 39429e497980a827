-- The trailer that closes a frame (document 01, "Frames"). Only this file, src/trailer.rt and proofs/Closing.antt know
-- its bytes and what a tag is made of.
use Rattle.std.specs.Prelude.{cond, ◌&&◌, List, ◌∷◌, ◌++◌, ℕ, ◌^◌, ◌<◌, length, get_or, eqb}
use Rattle.encoding.specs.LittleEndian.{little_bytes}
use Rattle.frames.specs.Record.{field}
use Rattle.frames.specs.declared.Tag.{Tag}

abbrev pub trailer_size : ℕ
trailer_size = 8

-- what a trailer says of its frame: of which tracepoint it is
abbrev pub tag_of : ℕ → Tag
tag_of t = record { tracepoint = t }

-- the trailer's bytes can hold it
pub record TagFits (tag : Tag) : Type 0 where
  pub tracepoint_fits : tag.tracepoint < 2 ^ 16

-- "46, 00, tracepoint number (2), length of the records (4)"
unfoldable pub encode_trailer : Tag → ℕ → List ℕ
encode_trailer tag long = 0x46 ∷ 0x00 ∷ (little_bytes 2 tag.tracepoint ++ little_bytes 4 long)

pub data TrailerRead : Type 0 where
  -- tag, length of the records
  trailer : Tag → ℕ → TrailerRead
  broken_trailer : TrailerRead

-- the trailer that these bytes are: "a wrong mark, a second byte other than 00" are broken
unfoldable pub decode_trailer : List ℕ → TrailerRead
decode_trailer l =
    cond
    (eqb (length l) trailer_size && eqb (get_or l 0 0) 0x46 && eqb (get_or l 1 0) 0x00)
    (trailer (tag_of (field l 2 2)) (field l 4 4))
    broken_trailer
