use Rattle.io.specs.Counts.{IsPrefixLen}
use Rattle.run_vectors.proofs.text.append_variables.Given as goal

abbrev pub invariant-loop-i : goal.invariant-loop-i
invariant-loop-i l = IsPrefixLen l.text.end l.text.bytes.now
