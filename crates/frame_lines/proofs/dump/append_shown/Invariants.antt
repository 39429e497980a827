use Rattle.std.proofs.Common.{◌≡◌}
use Rattle.std.proofs.Common.{drop}
use Rattle.text_buffer.proofs.Promises.{Going}
use Rattle.frame_lines.specs.Dump.{shown}
use Rattle.frame_lines.proofs.dump.append_shown.Given as goal

abbrev pub invariant-loop-byte : goal.invariant-loop-byte
invariant-loop-byte l = record {
  going : Going l.initial.text.bytes.now l.initial.text.end (shown l.bytes) (shown (drop l.byte-index l.bytes)) l.text.bytes.now l.text.end;
  lent : l.text.bytes.ghost_name ≡ l.initial.text.bytes.ghost_name;
}
