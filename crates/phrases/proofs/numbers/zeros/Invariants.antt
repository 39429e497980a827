-- The loop's invariant: n zeros are passed.
use Rattle.phrases.proofs.Numbering.{Skipping}
use Rattle.phrases.proofs.numbers.zeros.Given as goal

abbrev pub invariant-loop-n : goal.invariant-loop-n
invariant-loop-n l = Skipping l.figures l.n
