use mathlib.Core.Path.{◌∙◌}
use Rattle.hexadecimal.proofs.Hexing.{prefixed_is}
use Rattle.hexadecimal.proofs.is_prefixed.Goals as goal

pub returns : goal.returns
returns c = c.starts_with.ensures.value ∙ prefixed_is c.args.text.now
