use Rattle.span_room.proofs.Moving.{last_part}
use Rattle.span_room.proofs.last_bytes.Goals as goal

pub returns : goal.returns
returns c = rw c.saturating_sub.ensures (last_part c.args.bytes.now c.args.count)
