use Rattle.logic.proofs.Promises.{no_true}
use mathlib.Core.Path.{sym}
use Rattle.verifier.proofs.in_doubt.Goals as goal

pub returns : goal.returns
returns c = (c.verify_by.ensures, λ z. no_true (sym z))
