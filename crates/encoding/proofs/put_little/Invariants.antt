use Rattle.encoding.proofs.Putting.{PuttingLittle}
use Rattle.encoding.proofs.put_little.Given as goal

abbrev pub invariant-loop-put : goal.invariant-loop-put
invariant-loop-put l = PuttingLittle l.initial.out l.at l.value l.count l.out l.put l.rest
