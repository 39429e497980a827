use native.Mathlib.Omega.{arith}
use borrow.Author.Rules.{rules}
use Rattle.verdict.proofs.Deciding.{fault_differing}
use Rattle.passes.proofs.Measuring.{passing_in, refused_step, turned_step}
use Rattle.passes.proofs.pass3.step.Goals as goal

pub incoming-flow-requires : goal.incoming-flow-requires
incoming-flow-requires g c =
    let s = c.requires.standing in
    (search rules, (omega (arith, passing_in s.passing, s.heights_long, c.args.brought.now.whole.0), s.small, s.untold))

pub returns-then-here-eq-DIFFERING : goal.returns-then-here-eq-DIFFERING
returns-then-here-eq-DIFFERING g c =
    let a = c.args in let i = c.incoming-flow.ensures in
    turned_step i (omega arith) (refused_step a.e.now a.at _ _ _ _ (fault_differing a.e.now a.at _ c.if-here-eq-DIFFERING.true) (omega arith))
