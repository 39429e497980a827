use Rattle.encoding.proofs.LittleReading.{Ahead}
use Rattle.encoding.proofs.little_endian.Given as goal

abbrev pub invariant-loop-read : goal.invariant-loop-read
invariant-loop-read l = Ahead l.bytes l.value l.read
