use mathlib.Core.List.{[]}
use mathlib.Core.Path.{refl}
use Rattle.operations.proofs.Promises.{next_here, taken_here}
use Rattle.recording.proofs.Making.{range_same}
use Rattle.recording.proofs.Appending.{made_as, did_made}
use Rattle.recording.proofs.do_trace.Goals as goal

pub returns : goal.returns
returns c =
    let m = made_as (range_same _ _ c.below-address.ensures c.below-size.ensures) c.in_ok-put.ensures in
    did_made [] c.requires.here _ m c.next_place.ensures.put (next_here c.requires.here c.next_place.ensures.at) (taken_here c.requires.here c.next_place.ensures.height refl) c.requires.here.lent.long
