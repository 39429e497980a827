use Rattle.io.specs.Counts.{IsPrefixLen}
use Rattle.run_vectors.proofs.text.append_pairs.Given as goal

abbrev pub invariant-loop-byte : goal.invariant-loop-byte
invariant-loop-byte l = IsPrefixLen l.text.end l.text.bytes.now
