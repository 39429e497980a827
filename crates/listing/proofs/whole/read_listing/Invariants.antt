-- The loop's invariant: what is left of the text is read as the definition reads it from there. Assumes nothing.
use Prim.Native.Nat.{◌-◌}
use mathlib.Core.Path.{◌≡◌}
use lib.ListN.{length}
use Rattle.listing.proofs.Dividing.{ListingTurn}
use Rattle.listing.proofs.whole.read_listing.Given as goal

abbrev pub invariant-loop-start : goal.invariant-loop-start
invariant-loop-start l = ListingTurn l.text l.initial.code.bytes.now l.start l.line l.code.end l.code.bytes.now × (l.code.bytes.ghost_name ≡ l.initial.code.bytes.ghost_name)

abbrev pub decreases-loop-start : goal.decreases-loop-start
decreases-loop-start l = length l.text - l.start
