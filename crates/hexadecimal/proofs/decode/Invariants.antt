-- `hexadecimal::decode` meets its contract. The loop's invariant: what was read stands in the buffer, and the reading
-- of the whole text is that followed by the reading of the rest. The measure is what is left of the text. Assumes
-- nothing.
use Prim.Native.Nat.{◌-◌}
use lib.ListN.{length}
use Rattle.hexadecimal.proofs.Hexing.{Decoding}
use Rattle.hexadecimal.proofs.decode.Given as goal

abbrev pub invariant-loop-i : goal.invariant-loop-i
invariant-loop-i l = Decoding l.text l.initial.out l.out l.n l.i

abbrev pub decreases-loop-i : goal.decreases-loop-i
decreases-loop-i l = length l.text - l.i
