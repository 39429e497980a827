use mathlib.Core.Path.{refl, ap}
use Rattle.runner.specs.declared.Own.{Own}
use Rattle.runner.proofs.Settling.{settled}
use Rattle.runner.proofs.run_accepted.Goals as goal
use Rattle.runner.proofs.run_accepted.Goals.{then-sets, else-sets, else-sets-2-via-then-sets-2+else-is_err, else-sets-2-via-else-sets-2}

pub returns-then-is_err : goal.returns-then-is_err
returns-then-is_err c =
    settled c.follow-returned.result c.follow-returned.ensures (λ z. cc (c.if-is_err.true, z))
    (λ _. elim c.if-sets.branch [ then-sets w ↦ ap (λ (o : Own). o.kept) w.own-is | else-sets w ↦ cc (c.if-sets-2.true, w.if-sets.false) ])

pub returns-else-sets-2 : goal.returns-else-sets-2
returns-else-sets-2 c =
    settled c.follow-returned.result c.follow-returned.ensures (λ _. refl)
    (λ z. elim c.else-sets-2.branch [
      | else-sets-2-via-then-sets-2+else-is_err w ↦ cc (w.if-is_err.false, z)
      | else-sets-2-via-else-sets-2 w ↦ c.follow-returned.ensures.unset (c.requires.3 w.if-sets-2.false)
    ])
