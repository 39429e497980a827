use native.Mathlib.Omega.{arith}
use mathlib.Core.Path.{refl, ◌∙◌}
use Prim.Native.Nat.{◌-◌}
use lib.ListN.{length-set}
use Rattle.isa.proofs.Holding.{held_replace}
use Rattle.isa.proofs.Stack.replace.Goals as goal

pub returns : goal.returns
returns c =
    let a = c.args in (
      refl,
      held_replace a.cells.now a.height a.count a.cell c.requires.count (omega (arith, c.requires)),
      length-set a.cells.now (a.height - a.count) a.cell ∙ c.requires.cells,
    )
