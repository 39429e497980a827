use Rattle.std.proofs.Common.{sym, ◌∙◌, arith}
use Rattle.memory.proofs.Searching.{passed_none, passed_block}
use Rattle.memory.proofs.before_zero.Goals as goal

pub loop-block-init : goal.loop-block-init
loop-block-init c = passed_none _

pub loop-block-preserved : goal.loop-block-preserved
loop-block-preserved c =
    passed_block c.loop-block.invariant _ (sym c.contains.ensures.value ∙ c.if-contains.false) _ (omega arith) (omega arith)
