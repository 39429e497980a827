use Rattle.encoding.proofs.Putting.{PuttingBytes}
use Rattle.encoding.proofs.put_each.Given as goal

abbrev pub invariant-loop-copied : goal.invariant-loop-copied
invariant-loop-copied l = PuttingBytes l.initial.out l.at l.bytes l.out l.copied
