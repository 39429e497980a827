use Rattle.isa.proofs.Table.{class_high}
use Rattle.isa.proofs.Rows.of.Goals as goal

pub returns : goal.returns
returns c =
    let q = class_high c.args.opcode c.if-opcode-lt53.false in
    record { operands_is = rw q; needed_is = rw q; left_is = rw q; kind_is = rw q }
