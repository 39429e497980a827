use Rattle.io.specs.Counts.{IsPrefixLen}
use Rattle.leaf_vectors.proofs.reading.append_records.Given as goal

abbrev pub invariant-loop-index : goal.invariant-loop-index
invariant-loop-index l = IsPrefixLen l.text.end l.text.bytes.now
