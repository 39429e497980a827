use Rattle.collection_notes.specs.Notes.{nothing_note}
use Rattle.collection_notes.proofs.append_nothing.Goals as goal

pub returns : goal.returns
unfolding nothing_note
returns c = c.append.ensures
