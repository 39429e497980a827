use Rattle.std.proofs.Common.{◌-◌}
use Rattle.command_frames.proofs.gdb.write_records.Given as goal

abbrev pub decreases-loop-place : goal.decreases-loop-place
decreases-loop-place l = l.part.end - l.place
