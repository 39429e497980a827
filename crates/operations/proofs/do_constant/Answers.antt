use mathlib.Core.Path.{refl}
use Rattle.operations.proofs.Doing.{did_word}
use Rattle.operations.proofs.do_constant.Goals as goal

pub returns : goal.returns
returns c = did_word c.requires c.put_word.ensures refl refl (cc)
