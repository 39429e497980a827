use Rattle.std.proofs.Common.{◌-◌}
use Rattle.command_frames.proofs.Ends.{Back}
use Rattle.command_frames.proofs.places.end_of.Given as goal

abbrev pub invariant-loop-passed : goal.invariant-loop-passed
invariant-loop-passed l = Back l.buffer l.used l.number l.place (l.number - l.passed)
