use native.Mathlib.Omega.{arith}
use mathlib.Core.Path.{sym}
use lib.ListN.{get_or}
use Rattle.isa.specs.declared.Kind.TheVariants.{Pick}
use Rattle.isa.proofs.Numbering.{kind_same, kind_other}
use Rattle.isa.proofs.Table.{pick_operands}
use Rattle.isa.proofs.Decoding.{picked_pick, picked_none}
use Rattle.isa.proofs.picked_at.Goals as goal

pub operand_at-requires : goal.operand_at-requires
operand_at-requires c =
    let a = c.args in
    let h = kind_same a.row.kind Pick c.if-eq.ensures in
    record { count = sym (pick_operands (get_or a.e.now a.at 0) (omega arith)); within = c.requires.within }

pub returns-then-eq : goal.returns-then-eq
returns-then-eq c = let h = kind_same c.args.row.kind Pick c.if-eq.ensures in (picked_pick _ _ _ c.operand_at.ensures.0 (omega arith), c.operand_at.ensures.1)

pub returns : goal.returns
returns c = let h = kind_other c.args.row.kind Pick c.if-eq.ensures in (picked_none _ _ (omega arith), omega arith)
