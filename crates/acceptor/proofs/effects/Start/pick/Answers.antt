use Rattle.isa.proofs.Promises.{picked_pick}
use Rattle.acceptor.proofs.effects.Start.pick.Goals as goal

pub returns : goal.returns
returns c = rw (picked_pick c.args.self.now.e.now c.args.self.now.at c.operand_at-n.result c.operand_at-n.ensures.0 c.requires) at c.by_row.ensures
