use Rattle.listing.proofs.Dividing.{line_last, line_inner, counted}
use Rattle.listing.proofs.whole.line_end.Goals as goal

pub returns-then-end-text : goal.returns-then-end-text
returns-then-end-text c = line_last c.args.text.now c.args.start _ c.requires (counted _ _ _ c.before-2.ensures) c.if-end-text.true

pub returns : goal.returns
returns c = line_inner c.args.text.now c.args.start _ c.requires (counted _ _ _ c.before-2.ensures) c.if-end-text.false
