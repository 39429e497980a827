use Rattle.listing.specs.Parts.{is_scope}
use Rattle.listing.proofs.parts.is_scope.Goals as goal

pub returns : goal.returns
unfolding is_scope
returns c = c.begins_with.ensures
