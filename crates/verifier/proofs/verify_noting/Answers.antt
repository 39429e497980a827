use Rattle.verdict.proofs.Deciding.{verdict_long}
use Rattle.logic.proofs.Promises.{no_true}
use mathlib.Core.Path.{sym}
use native.Mathlib.Omega.{arith}
use Rattle.verifier.proofs.verify_noting.Goals as goal

pub returns-then-e-gt-EXPRESSION_MOST : goal.returns-then-e-gt-EXPRESSION_MOST
returns-then-e-gt-EXPRESSION_MOST c = (rw c.at.ensures (verdict_long _ (omega arith)), λ z. no_true (sym z))

pub returns-in-Some : goal.returns-in-Some
returns-in-Some c = (c.in-Some.ensures.accepts, c.in-Some.ensures.quiet)
