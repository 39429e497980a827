use Rattle.std.proofs.Common.{◌≡◌, ◌≤◌, length}
use Rattle.command_verify.proofs.answer.Command.verify_lines.Given as goal

abbrev pub invariant-loop-number : goal.invariant-loop-number
invariant-loop-number l = record {
  bytes : length l.bytes ≡ 65536;
  waiting : l.waiting ≤ 65536;
}
