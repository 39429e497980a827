use mathlib.Core.Path.{sym}
use Rattle.logic.proofs.Promises.{no_true}
use Rattle.acceptor.proofs.AlongStraight.{looping_start, looping_on}
use Rattle.acceptor.proofs.straight.follow.Goals as goal

pub loop-s-init : goal.loop-s-init
loop-s-init c = looping_start _ c.requires

pub loop-s-preserved-in-On : goal.loop-s-preserved-in-On
loop-s-preserved-in-On c =
    let w = rw c.in-On.is at c.in_ok-onward.ensures in
    rw c.behind-s.ensures (looping_on c.loop-s.invariant c.loop-s-test.true w.0 (λ z. (z, w.1)))

pub loop-s-preserved : goal.loop-s-preserved
loop-s-preserved c =
    let w = rw c.in-Sets.is at c.in_ok-onward.ensures in
    rw c.behind-s-in-Sets.ensures (looping_on c.loop-s.invariant c.loop-s-test.true w (λ z. no_true (sym z)))
