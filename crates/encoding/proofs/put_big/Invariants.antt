use Rattle.encoding.proofs.BigBytes.{PuttingBig}
use Rattle.encoding.proofs.put_big.Given as goal

abbrev pub invariant-loop-put : goal.invariant-loop-put
invariant-loop-put l = PuttingBig l.initial.out l.at l.value l.count l.out l.rest l.put
