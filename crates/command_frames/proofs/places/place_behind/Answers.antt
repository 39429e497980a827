use Rattle.command_frames.proofs.Ends.{next_behind}
use Rattle.command_frames.proofs.places.place_behind.Goals as goal

pub returns-in-Ok : goal.returns-in-Ok
returns-in-Ok c = next_behind _ _ _ c.in-Ok.found.record _ c.in-Ok.ensures
