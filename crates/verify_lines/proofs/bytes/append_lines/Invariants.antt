use mathlib.Core.Path.{◌≡◌}
use Rattle.std.specs.Slice.Iter.{chunks_rest, chunks_size}
use Rattle.io.specs.Counts.{IsPrefixLen}
use Rattle.text_buffer.proofs.Promises.{Going}
use Rattle.verify_lines.specs.Bytes.{bytes_text}
use Rattle.verify_lines.proofs.bytes.append_lines.Given as goal

abbrev pub invariant-loop-line : goal.invariant-loop-line
invariant-loop-line l =
    Going l.initial.text.bytes.now l.initial.text.end (bytes_text l.code) (bytes_text (chunks_rest l.line-iterator)) l.text.bytes.now l.text.end × IsPrefixLen l.text.end l.text.bytes.now × (chunks_size l.line-iterator ≡ 40) × (l.text.bytes.ghost_name ≡ l.initial.text.bytes.ghost_name)
