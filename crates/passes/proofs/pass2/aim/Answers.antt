use native.Mathlib.Omega.{arith}
use mathlib.Core.Path.{◌≡◌, sym, ◌∙◌}
use Prim.Native.Nat.{◌<◌}
use lib.ListN.{get_or}
use lib.Seq.{get_or-take, length-take-le}
use Rattle.refusals.proofs.Promises.{reason_some}
use Rattle.verdict.specs.Pass2.{fault2}
use Rattle.passes.proofs.Aiming.{aiming_start, aiming_turn, aiming_fault, aiming_end, noted_at}
use Rattle.passes.proofs.pass2.aim.Goals as goal

pub loop-jump-init : goal.loop-jump-init
loop-jump-init g c = aiming_start c.requires.3

pub fault_at-requires : goal.fault_at-requires
fault_at-requires g c =
    let p = c.requires in let f = c.args.found.now in let i = c.loop-jump.jump-index in
    let h : i < f.noted = omega (arith, c.loop-jump-test.true, length-take-le f.noted f.jumps p.3.room) in
    let q = noted_at p.3 i h in
    let x : c.from-at.result ≡ get_or f.jumps i 0 = c.from-at.ensures ∙ get_or-take f.noted f.jumps i 0 h in
    (p.0, p.1, p.2, rw x q.0, rw x q.1)

pub returns-in-Err : goal.returns-in-Err
returns-in-Err g c =
    let room = c.requires.3.room in let f = c.args.found.now in let i = c.loop-jump.jump-index in
    let h : i < f.noted = omega (arith, c.loop-jump-test.true, length-take-le f.noted f.jumps room) in
    let x : c.from-at.result ≡ get_or f.jumps i 0 = c.from-at.ensures ∙ get_or-take f.noted f.jumps i 0 h in
    rw c.at.ensures (aiming_fault room c.loop-jump.invariant h x c.in-Err.ensures (λ z. absurd (omega (arith, reason_some c.in-Err.reason, z))))

pub loop-jump-preserved : goal.loop-jump-preserved
loop-jump-preserved g c =
    let room = c.requires.3.room in let f = c.args.found.now in let i = c.loop-jump.jump-index in
    let h : i < f.noted = omega (arith, c.loop-jump-test.true, length-take-le f.noted f.jumps room) in
    let x : c.from-at.result ≡ get_or f.jumps i 0 = c.from-at.ensures ∙ get_or-take f.noted f.jumps i 0 h in
    let z : 0 ≡ fault2 c.args.e.now c.from-at.result = c.in-Ok.ensures in
    aiming_turn room c.loop-jump.invariant h (sym (rw x at z))

pub returns : goal.returns
returns g c =
    let f = c.args.found.now in let room = c.requires.3.room in
    aiming_end room c.loop-jump.invariant (omega (arith, c.loop-jump-test.false, length-take-le f.noted f.jumps room))
