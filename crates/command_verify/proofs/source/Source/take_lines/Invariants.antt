use Rattle.std.proofs.Common.{length, ◌-◌, ◌≤◌}
use Rattle.command_verify.proofs.source.Source.take_lines.Given as goal

abbrev pub invariant-loop-at : goal.invariant-loop-at
invariant-loop-at l = l.n ≤ length l.bytes

abbrev pub decreases-loop-at : goal.decreases-loop-at
decreases-loop-at l = length l.self.text.now - l.at
