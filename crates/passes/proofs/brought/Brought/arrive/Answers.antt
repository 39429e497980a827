use mathlib.Core.Path.{ap, ◌∙◌}
use native.Mathlib.Omega.{arith}
use Prim.Native.Nat.{ℕ}
use lib.ListN.{set}
use Rattle.verdict.specs.Pass3.{joined, arrive, raise}
use Rattle.passes.proofs.brought.Brought.arrive.Goals as goal

pub returns : goal.returns
unfolding arrive raise
returns g c =
    let a = c.args in (
      ap (λ (x : ℕ). set a.self.now.heights a.to x) (c.joined_with.ensures.0 ∙ ap (λ (y : ℕ). joined y a.flow.height) c.at-here.ensures.0),
      ap (λ (x : ℕ). set a.self.now.distances a.to x) (omega (arith, c.at-here.ensures.2)),
    )
