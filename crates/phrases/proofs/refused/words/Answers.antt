use mathlib.Core.Path.{refl}
use Rattle.phrases.proofs.refused.words.Goals as goal

pub returns : goal.returns
returns c = refl
