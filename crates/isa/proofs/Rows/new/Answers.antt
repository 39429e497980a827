use mathlib.Core.Path.{refl}
use Rattle.isa.specs.Classes.{opcodes, class_of}
use Rattle.isa.specs.Joining.Rows.{rows_from, table}
use Rattle.isa.proofs.Rows.new.Goals as goal

pub invariant_of-result : goal.invariant_of-result
unfolding table rows_from class_of opcodes
invariant_of-result c = record { are_table = refl }
