-- Document 01's example of a frame, in a trace file. Assumes nothing.
use Rattle.std.specs.Prelude.{◌≡◌, [], ◌∷◌, refl}
use Rattle.encoding.specs.LittleEndian.{little_endian, little_bytes}
use Rattle.frames.specs.Example.{example_frame}
use Rattle.frames.specs.Record.{encode, encode_all, decode_memory, decode}
use Rattle.frames.specs.Division.{divide_at_most, divide}
use Rattle.frames.specs.Trailer.{decode_trailer}
use Rattle.reader.specs.Located.{frame_before, frame_back, located}
use Rattle.reader.specs.Framed.{framed}
use Rattle.tracefile.specs.Frames.{frames_bytes}

-- tracepoint 7, 13 bytes of records, the record, and the end of the file
in_the_file : frames_bytes example_frame 21 1
    ≡ 0x07 ∷ 0x00 ∷ 0x0d ∷ 0x00 ∷ 0x00 ∷ 0x00 ∷ 0x4d ∷ 0x00 ∷ 0x10 ∷ 0x00 ∷ 0x00 ∷ 0x00 ∷ 0x00 ∷ 0x00 ∷ 0x00 ∷ 0x02 ∷ 0x00 ∷ 0x41 ∷ 0x00 ∷ 0x00 ∷ 0x00 ∷ []
unfolding little_endian little_bytes example_frame encode encode_all decode_memory decode divide_at_most divide decode_trailer frame_before frame_back located framed frames_bytes
in_the_file = refl
