use Rattle.std.proofs.Common.{◌≡◌}
use Rattle.text_buffer.proofs.Promises.{Going}
use Rattle.frame_lines.specs.Dump.{column}
use Rattle.frame_lines.proofs.Dumping.{cells_from}
use Rattle.frame_lines.proofs.dump.append_column.Given as goal

abbrev pub invariant-loop-i : goal.invariant-loop-i
invariant-loop-i l = record {
  going : Going l.initial.text.bytes.now l.initial.text.end (column 16 l.bytes) (cells_from l.bytes l.i) l.text.bytes.now l.text.end;
  lent : l.text.bytes.ghost_name ≡ l.initial.text.bytes.ghost_name;
}
