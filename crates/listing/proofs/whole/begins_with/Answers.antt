use mathlib.Core.Path.{◌∙◌}
use Rattle.listing.proofs.Dividing.{begins_is}
use Rattle.listing.proofs.whole.begins_with.Goals as goal

pub returns : goal.returns
returns c = c.starts_with.ensures.value ∙ begins_is c.args.word.now c.args.line.now
