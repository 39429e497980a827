use native.Mathlib.Omega.{arith}
use borrow.Author.Rules.{rules}
use Rattle.refusals.proofs.Promises.{reason_some}
use Rattle.passes.proofs.Scanning.{scanning_start, scanning_turn, scanning_fault, scanning_end, note_room}
use Rattle.passes.proofs.pass1.scan.Goals as goal

pub loop-at-init : goal.loop-at-init
loop-at-init g c = rw c.requires.unmarked.1 (scanning_start _ _ _ c.requires.unmarked.0)

pub look-requires : goal.look-requires
look-requires g c =
    let s = c.loop-at.invariant in let w = c.loop-at.found.whole in
    (search rules, ((c.loop-at-test.true, c.requires.size, omega (arith, s.marks_long, w.0)), λ f p q. omega (arith, note_room s f p q, w.1)))

pub returns-in-Err : goal.returns-in-Err
returns-in-Err g c =
    rw c.at.ensures
    (scanning_fault c.loop-at.invariant _ c.loop-at-test.true c.in-Err.ensures (λ z. absurd (omega (arith, reason_some c.in-Err.reason, z))))

pub loop-at-preserved : goal.loop-at-preserved
loop-at-preserved g c =
    let q = c.in-Ok.ensures in
    rw (q.1, q.2, q.3.count_is, q.3.table_is) (scanning_turn c.loop-at.invariant c.loop-at-test.true q.0)

pub returns : goal.returns
returns g c = scanning_end c.loop-at.invariant c.requires.size (search rules)
