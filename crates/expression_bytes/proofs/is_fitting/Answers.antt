use Rattle.expression_bytes.specs.Expression.{is_fitting}
use Rattle.expression_bytes.proofs.is_fitting.Goals as goal

pub returns-in-Ok : goal.returns-in-Ok
unfolding is_fitting
returns-in-Ok c = rw (c.in-Some.is, c.in-Ok.is)

pub returns-in-Err : goal.returns-in-Err
unfolding is_fitting
returns-in-Err c = rw (c.in-Some.is, c.in-Err.is)

pub returns-in-None : goal.returns-in-None
unfolding is_fitting
returns-in-None c = rw c.in-None.is
