use Rattle.runner.proofs.Answering.{closed}
use Rattle.runner.proofs.close_frame.Goals as goal

pub returns : goal.returns
returns c =
    rw (← c.tag_of-tag.ensures) (closed c.args.buffer.now c.args.put _ c.args.size c.requires.room c.append_trailer.ensures)
