use Rattle.encoding.proofs.Putting.{two_moves}
use Rattle.encoding.proofs.put_two.Goals as goal

pub returns : goal.returns
returns c =
    two_moves c.args.out.now c.args.at c.args.bytes.now c.args.width c.requires.one c.requires.two
    c.put_whole.ensures
    c.put_whole-2.ensures
