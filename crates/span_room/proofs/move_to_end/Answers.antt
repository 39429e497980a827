use native.Mathlib.Omega.{arith}
use mathlib.Core.Path.{◌∙◌}
use Rattle.span_room.proofs.Moving.{moves_none, moves_copied}
use Rattle.span_room.proofs.move_to_end.Goals as goal

pub returns-then-bytes-count : goal.returns-then-bytes-count
returns-then-bytes-count c = moves_none c.args.bytes.now c.args.from c.args.count (omega arith)

pub returns-then-from-to : goal.returns-then-from-to
returns-then-from-to c = c.copy_within.ensures.after ∙ moves_copied c.args.bytes.now c.args.from c.args.count (omega arith)

pub returns-else-from-to : goal.returns-else-from-to
returns-else-from-to c = moves_none c.args.bytes.now c.args.from c.args.count (omega arith)
