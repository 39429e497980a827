use Rattle.isa.proofs.Holding.{held_at}
use Rattle.isa.proofs.Stack.below.Goals as goal

pub returns : goal.returns
returns c = held_at c.args.cells.now c.args.height c.args.depth c.requires.depth
