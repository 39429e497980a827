use native.Mathlib.Omega.{arith}
use Rattle.verdict.proofs.Deciding.{f_backward, f_forward, f_no_start, f_past, decodes_fits}
use Rattle.passes.proofs.Aiming.{mark_says}
use Rattle.passes.proofs.pass2.fault_at.Goals as goal
use Rattle.passes.proofs.pass2.fault_at.Goals.{then-e-target-via-then-e-target, then-e-target-via-else-e-target+then-not-marks-target}

pub operand_at-target-requires-clause-within : goal.operand_at-target-requires-clause-within
operand_at-target-requires-clause-within c = let p = c.requires in decodes_fits c.args.e.now c.args.at p.1 p.3

pub returns-then-e-target : goal.returns-then-e-target
returns-then-e-target c =
    let p = c.requires in
    elim c.then-e-target.branch [
      | then-e-target-via-then-e-target w ↦ f_past _ _ p.4 (omega (arith, w.if-e-target.true, c.operand_at-target.ensures.0))
      | then-e-target-via-else-e-target+then-not-marks-target w ↦
          f_no_start _ _ p.4 (mark_says _ _ _ _ _ w.if-not-marks-target.true p.2 c.operand_at-target.ensures.0 (omega (arith, w.if-e-target.false)))
    ]

pub returns-then-target-at : goal.returns-then-target-at
returns-then-target-at c =
    let p = c.requires in f_backward _ _ p.4 (mark_says _ _ _ _ _ c.if-not-marks-target.false p.2 c.operand_at-target.ensures.0 (omega arith)) (omega arith)

pub returns : goal.returns
returns c =
    let p = c.requires in f_forward _ _ p.4 (mark_says _ _ _ _ _ c.if-not-marks-target.false p.2 c.operand_at-target.ensures.0 (omega arith)) (omega arith)
