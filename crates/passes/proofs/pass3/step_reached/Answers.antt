use native.Mathlib.Omega.{arith}
use mathlib.Core.Path.{◌∙◌}
use Rattle.verdict.proofs.Deciding.{off_other}
use Rattle.isa.proofs.Promises.{needed_row, left_row}
use Rattle.passes.proofs.Measuring.{brings_none, kind_straight, stepped_on}
use Rattle.passes.proofs.pass3.step_reached.Goals as goal

pub returns-in-Unknown : goal.returns-in-Unknown
returns-in-Unknown g c =
    let a = c.args in let e = a.e.now in let k = a.at in let q = c.requires in
    let low = kind_straight a.row.kind c.in-Unknown.is in
    let s = q.row.kind_is in
    stepped_on e k _ _ _ _ (omega (arith, low, s)) (omega (arith, low, s))
    (c.effect_by.ensures e k
    (needed_row e k _ (c.from-needed.ensures ∙ q.row.needed_is) (omega (arith, low, s)))
    (left_row e k _ (c.from-left.ensures ∙ q.row.left_is) (omega (arith, low, s)))
    (off_other e k _ (omega (arith, low, s)) (omega (arith, low, s)) q.next))
    (brings_none e k _ _ _ _ _ (omega (arith, low, s)) (omega (arith, low, s)))
