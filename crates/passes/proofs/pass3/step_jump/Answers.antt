use native.Mathlib.Omega.{arith}
use mathlib.Core.Path.{refl, ◌∙◌}
use borrow.Author.Rules.{rules}
use Rattle.std.proofs.lemmas.Result.{err_from_is_err_and}
use Rattle.refusals.proofs.Promises.{reason_some}
use Rattle.isa.proofs.Promises.{needed_row, left_row}
use Rattle.passes.proofs.Measuring.{brings_refused, effected_low}
use Rattle.passes.proofs.pass3.step_jump.Goals as goal

pub returns-in_err-after : goal.returns-in_err-after
returns-in_err-after g c =
    let e = c.args.e.now in let k = c.args.at in let q = c.requires in let s = q.row.kind_is in
    let n = needed_row e k _ (c.from-needed.ensures ∙ q.row.needed_is) (omega (arith, q.jump.0, s)) in
    let l = left_row e k _ (c.from-left.ensures ∙ q.row.left_is) (omega (arith, q.jump.0, s)) in
    let p = err_from_is_err_and c.from_residual.result c.from_residual.ensures.1 in
    rw (p.1, p.2) (c.in_err-after.ensures e k n l q.jump.2, brings_refused e k _ _ (λ z. absurd (omega (arith, reason_some c.in_err-after.field-0.0, z))))

pub bring-requires : goal.bring-requires
bring-requires g c =
    let a = c.args in let e = a.e.now in let k = a.at in let q = c.requires in let s = q.row.kind_is in
    let n = needed_row e k _ (c.from-needed.ensures ∙ q.row.needed_is) (omega (arith, q.jump.0, s)) in
    let l = left_row e k _ (c.from-left.ensures ∙ q.row.left_is) (omega (arith, q.jump.0, s)) in
    let x = c.in_ok-after.ensures e k n l q.jump.2 in let r = q.reached in
    (search rules, (s, (r.passing, omega (arith, r.heights_long, a.brought.now.whole.0), omega (arith, effected_low x refl), omega (arith, (x.onward refl).distance_is, r.near))))

pub returns : goal.returns
returns g c =
    let e = c.args.e.now in let k = c.args.at in let q = c.requires in let s = q.row.kind_is in
    let n = needed_row e k _ (c.from-needed.ensures ∙ q.row.needed_is) (omega (arith, q.jump.0, s)) in
    let l = left_row e k _ (c.from-left.ensures ∙ q.row.left_is) (omega (arith, q.jump.0, s)) in
    let x = c.in_ok-after.ensures e k n l q.jump.2 in let t = x.onward refl in let b = c.bring.ensures in
    (x, record { heights_are = λ _. rw t.height_is at b.0; distances_are = λ _. rw t.distance_is at b.1 })
