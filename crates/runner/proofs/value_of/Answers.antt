use Rattle.runner.proofs.Answering.{answer_none, answer_one, answer_two}
use Rattle.runner.proofs.value_of.Goals as goal

pub returns-then-height-eq0 : goal.returns-then-height-eq0
returns-then-height-eq0 c = answer_none c.args.cells.now c.args.height c.if-height-eq0.true

pub returns-then-height-eq1 : goal.returns-then-height-eq1
returns-then-height-eq1 c = answer_one c.args.cells.now c.args.height c.if-height-eq1.true

pub returns : goal.returns
returns c = answer_two c.args.cells.now c.args.height c.if-height-eq0.false c.if-height-eq1.false
