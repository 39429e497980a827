-- The texts at document 01's example of a frame. Assumes nothing.
use Rattle.std.specs.Prelude.{◌≡◌, refl}
use Rattle.encoding.specs.LittleEndian.{little_endian, little_bytes}
use Rattle.text_buffer.specs.Text.{bytes_of}
use Rattle.text_buffer.specs.Decimal.{decimal_by, decimal}
use Rattle.frames.specs.Example.{example_frame}
use Rattle.frames.specs.Record.{encode, encode_all, decode_memory, decode}
use Rattle.frames.specs.Division.{divide_at_most, divide}
use Rattle.frames.specs.Trailer.{decode_trailer}
use Rattle.reader.specs.Located.{frame_before, frame_back, located}
use Rattle.refusals.specs.Numbers.{trailer_broken}
use Rattle.refusals.specs.Refusal.{refusal}
use Rattle.reader.specs.Framed.{framed}
use Rattle.reader.specs.Read.{counting, refused_count}
use Rattle.reader.specs.NextRecord.{record_at, next_record}
use Rattle.reader.specs.NextRecord.{Variable}
use Rattle.phrases.specs.Numbers.{count_text, hex_text, significant, other_reading, value_text}
use Rattle.phrases.specs.Refused.{refused_at}
use Rattle.frame_lines.specs.Dump.{column, shown_byte, shown, dump_line, dump_text}
use Rattle.frame_lines.specs.Lines.{frame_refused_text, no_frame_text, some_frame_text, memory_text, variable_record_text, frame_text, record_text, completed_frames_text}

a_frame : frame_text 0 (counting example_frame 21 0) ≡ bytes_of "frame 0: tracepoint 7, 1 record, 13 bytes encoded\n"
unfolding little_endian decimal_by decimal example_frame decode_memory decode divide_at_most divide decode_trailer frame_before frame_back located framed little_bytes encode encode_all counting count_text some_frame_text frame_text
a_frame = refl

a_record : record_text 0 (next_record example_frame 13 0) ≡ bytes_of "  record 0: memory at 0000000000001000, 2 bytes\n"
unfolding little_endian decimal_by decimal example_frame decode_memory decode record_at next_record count_text hex_text memory_text record_text
a_record = refl

its_bytes : dump_text example_frame (next_record example_frame 13 0) 0 ≡ bytes_of "    0000000000001000  41 00                                            |A.|\n"
unfolding little_endian example_frame decode_memory decode record_at next_record hex_text column shown_byte shown dump_line dump_text
its_bytes = refl

a_variable : record_text 1 (Variable 3 42 26) ≡ bytes_of "  record 1: variable 3 = 42 (0x2a)\n"
unfolding decimal_by decimal hex_text significant other_reading value_text variable_record_text record_text
a_variable = refl

a_refusal : frame_text 1 (refused_count (refusal trailer_broken 5)) ≡ bytes_of "refused 22 at offset 5: the trailer before this offset is broken\n  asked: frame 1\n"
unfolding decimal_by decimal refused_at frame_refused_text no_frame_text frame_text
a_refusal = refl

the_end : completed_frames_text 3 (bytes_of "frame") 1 ≡ bytes_of "completed: 3 frames, 1 of them refused\n"
unfolding decimal_by decimal count_text completed_frames_text
the_end = refl
