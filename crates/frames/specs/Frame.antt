-- "At end a trailer closes the frame, even one with no records" (document 01, "Frames").
use Rattle.std.specs.Prelude.{List, ◌++◌, ℕ, length}
use Rattle.frames.specs.Record.{Record, encode_all}
use Rattle.frames.specs.Trailer.{encode_trailer}
use Rattle.frames.specs.declared.Tag.{Tag}

-- the records, then the trailer with their length
unfoldable pub encode_frame : Tag → List Record → List ℕ
encode_frame tag rs = encode_all rs ++ encode_trailer tag (length (encode_all rs))
