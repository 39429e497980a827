use Rattle.scenario.proofs.Reading.{Cutting}
use Rattle.scenario.proofs.before_comment.Given as goal

abbrev pub invariant-loop-n : goal.invariant-loop-n
invariant-loop-n l = Cutting l.line l.is_after_blank l.n
