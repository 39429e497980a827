use Rattle.encoding.proofs.Reading.{Reading}
use Rattle.encoding.proofs.big_endian.Given as goal

abbrev pub invariant-loop-read : goal.invariant-loop-read
invariant-loop-read l = Reading l.bytes l.at l.count l.number l.read
