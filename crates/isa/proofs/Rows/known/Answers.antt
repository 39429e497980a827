use Rattle.isa.proofs.Table.{is_row}
use Rattle.isa.proofs.Rows.known.Goals as goal

pub returns : goal.returns
returns c = is_row c.args.self.now.rows.now c.args.opcode _ c.args.self.now.are_table c.requires.opcode
