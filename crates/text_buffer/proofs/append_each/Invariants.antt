use Rattle.text_buffer.proofs.Appending.{Appending}
use Rattle.text_buffer.proofs.append_each.Given as goal

abbrev pub invariant-loop-i : goal.invariant-loop-i
invariant-loop-i l = Appending l.initial.out l.at l.bytes l.out l.end l.i
