use Rattle.listing.proofs.Dividing.{comment_cut, counted}
use Rattle.listing.proofs.whole.before_comment.Goals as goal

pub returns : goal.returns
returns c = comment_cut c.args.line.now _ _ (counted _ _ _ c.before-n.ensures) (counted _ _ _ c.before-2.ensures)
