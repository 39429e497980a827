use native.Mathlib.Omega.{arith}
use mathlib.Core.Path.{refl}
use borrow.Author.Rules.{rules}
use Rattle.refusals.proofs.Promises.{reason_some}
use Rattle.passes.proofs.Measuring.{measuring_start, measuring_turn, measuring_fault, measuring_end, passing_known}
use Rattle.passes.proofs.pass3.measure.Goals as goal

pub loop-at-init : goal.loop-at-init
loop-at-init g c = let p = c.requires.sound in measuring_start _ _ _ p.0 p.1 p.2 c.requires.unmeasured

pub known-row-requires : goal.known-row-requires
known-row-requires g c = record { opcode = passing_known (c.loop-at.invariant.here c.loop-at-test.true) }

pub returns-in-Err : goal.returns-in-Err
returns-in-Err g c =
    rw c.at.ensures (measuring_fault c.loop-at.invariant c.loop-at-test.true c.in-Err.ensures (λ z. absurd (omega (arith, reason_some c.in-Err.reason, z))))

pub loop-at-preserved : goal.loop-at-preserved
loop-at-preserved g c =
    rw (c.from.ensures, c.known-row.ensures.operands_is) (measuring_turn c.loop-at.invariant c.loop-at-test.true c.in-Ok.ensures refl)

pub returns : goal.returns
returns g c = measuring_end c.loop-at.invariant (search rules) c.args.count c.requires.count
