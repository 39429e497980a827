use Rattle.std.proofs.Common.{sym, arith}
use Rattle.command_frames.proofs.Ends.{count_inside}
use Rattle.command_frames.proofs.places.records_of.Goals as goal

pub overflow_add-result : goal.overflow_add-result
overflow_add-result c = record { fits = omega (arith, count_inside c.args.buffer.now c.args.end 0 (sym c.in-Ok.ensures)) }
