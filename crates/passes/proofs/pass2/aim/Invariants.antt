use Rattle.passes.proofs.Aiming.{Aiming}
use Rattle.passes.proofs.pass2.aim.Given as goal

abbrev pub invariant-loop-jump : goal.invariant-loop-jump
invariant-loop-jump g l = Aiming l.e l.found.noted l.found.jumps l.jump-index
