use Rattle.std.proofs.Common.{sym, arith}
use Rattle.reader.proofs.Promises.{walked_back}
use Rattle.command_frames.proofs.show.Shown.print_frames.Goals as goal

pub loop-frame-smaller : goal.loop-frame-smaller
loop-frame-smaller c = omega (arith, walked_back c.args.self.buffer.now c.loop-frame.place (sym c.in-Ok.ensures))
