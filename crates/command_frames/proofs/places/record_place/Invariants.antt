use Rattle.std.proofs.Common.{◌-◌}
use Rattle.command_frames.proofs.Ends.{Rest}
use Rattle.command_frames.proofs.places.record_place.Given as goal

abbrev pub invariant-loop-passed : goal.invariant-loop-passed
invariant-loop-passed l = Rest l.buffer l.part.end l.part.start l.index l.place (l.index - l.passed)
