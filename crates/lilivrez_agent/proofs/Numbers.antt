-- What the number says by itself.
use mathlib.Core.Path.{◌≡◌, refl}
use Prim.Native.Nat.{◌≤◌}
use native.Mathlib.Omega.{arith}
use Rattle.machine.specs.Given.{Given}
use Rattle.machine.specs.Machine.{Ended, completed, stopped}
use Rattle.machine.specs.Run.{ended, number_of}
use Rattle.machine.proofs.Promises.{stopped_number}
use Rattle.lilivrez_agent.specs.RunValues.{IsCompleted}

module _ (g : Given) where
  low : (o : Ended) → ended g ≡ o → number_of o ≤ 21
  unfolding number_of
  low (completed a n w rs) p = omega arith
  low (stopped r rs) p = (stopped_number g p).1

  pub number_most : number_of (ended g) ≤ 21
  number_most = low (ended g) refl

  zero : (o : Ended) → ended g ≡ o → number_of o ≡ 0 → IsCompleted o
  unfolding number_of
  zero (completed a n w rs) p z = tt
  zero (stopped r rs) p z = absurd (omega (arith, stopped_number g p))

  pub number_0 : number_of (ended g) ≡ 0 → IsCompleted (ended g)
  number_0 = zero (ended g) refl
