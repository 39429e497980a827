use native.Mathlib.Omega.{arith}
use mathlib.Core.Path.{refl, ap, sym, ◌∙◌}
use borrow.Author.Rules.{rules}
use Rattle.std.proofs.lemmas.Result.{err_from_is_err_and}
use Rattle.refusals.proofs.Promises.{reason_some}
use Rattle.isa.specs.Decode.{goes_on}
use Rattle.isa.specs.Joining.Rows.{kind_of}
use Rattle.isa.proofs.Promises.{needed_by, left_by, needed_row, left_row}
use Rattle.passes.proofs.Measuring.{passing_fits, off_goes, off_halts, brings_none, kind_last, stepped, stepped_on, refused_step}
use Rattle.passes.proofs.pass3.step_other.Goals as goal

pub picked_at-picked-requires-clause-within : goal.picked_at-picked-requires-clause-within
picked_at-picked-requires-clause-within g c = passing_fits c.requires.reached.passing

pub returns-in-Pick : goal.returns-in-Pick
returns-in-Pick g c =
    let e = c.args.e.now in let k = c.args.at in let q = c.requires in
    let s = sym q.row.kind_is ∙ ap kind_of c.in-Pick.is in
    let n = needed_by e k _ _ (c.from.ensures ∙ q.row.needed_is) c.picked_at-picked.ensures.0 in
    let l = left_by e k _ _ (c.from-in-Pick.ensures ∙ q.row.left_is) c.picked_at-picked.ensures.0 in
    stepped_on e k _ _ _ _ (omega (arith, s)) (omega (arith, s))
    (c.effect_by.ensures e k n l (q.past ∙ off_goes e k _ refl (ap goes_on s)))
    (brings_none e k _ _ _ _ _ (omega (arith, s)) (omega (arith, s)))

pub step_jump-requires : goal.step_jump-requires
step_jump-requires g c =
    let e = c.args.e.now in let k = c.args.at in let q = c.requires in
    let t = ap kind_of c.in-IfGoto.is in let s = sym q.row.kind_is ∙ t in
    (search rules, (q.row, (q.reached, (omega (arith, t), omega (arith, t), q.past ∙ off_goes e k _ refl (ap goes_on s)))))

pub returns-in-IfGoto : goal.returns-in-IfGoto
returns-in-IfGoto g c =
    let s = sym c.requires.row.kind_is ∙ ap kind_of c.in-IfGoto.is in let x = c.step_jump.ensures in
    stepped_on _ _ _ _ _ _ (omega (arith, s)) (omega (arith, s)) x.0 x.1

pub step_jump-requires-in-Goto : goal.step_jump-requires-in-Goto
step_jump-requires-in-Goto g c =
    let q = c.requires in let t = ap kind_of c.in-Goto.is in
    (search rules, (q.row, (q.reached, (omega (arith, t), omega (arith, t), off_halts c.args.e.now c.args.at (ap goes_on (sym q.row.kind_is ∙ t))))))

pub returns-in_ok-after-in-Goto : goal.returns-in_ok-after-in-Goto
returns-in_ok-after-in-Goto g c =
    let x = c.in_ok-after-in-Goto.ensures in
    stepped c.args.e.now c.args.at _ _ _ _ c.requires.row.kind_is x.0 refl c.flowing.ensures x.1

pub returns-in_err-after-in_default : goal.returns-in_err-after-in_default
returns-in_err-after-in_default g c =
    let e = c.args.e.now in let k = c.args.at in let q = c.requires in let d = c.in_default in
    let s = sym q.row.kind_is ∙ kind_last c.args.row.kind q.kind d.not-Pick d.not-IfGoto d.not-Goto in
    let n = needed_row e k _ (c.from-needed.ensures ∙ q.row.needed_is) (omega (arith, s)) in
    let l = left_row e k _ (c.from-left.ensures ∙ q.row.left_is) (omega (arith, s)) in
    let x = c.in_err-after-in_default.ensures e k n l (off_halts e k (ap goes_on s)) in
    let p = err_from_is_err_and c.from_residual-in_err-after-in_default.result c.from_residual-in_err-after-in_default.ensures.1 in
    rw (p.1, p.2) (refused_step e k _ _ _ _ x.number (λ z. absurd (omega (arith, reason_some c.in_err-after-in_default.field-0.0, z))))

pub returns-in_ok-after-in_default : goal.returns-in_ok-after-in_default
returns-in_ok-after-in_default g c =
    let e = c.args.e.now in let k = c.args.at in let q = c.requires in let d = c.in_default in
    let s = sym q.row.kind_is ∙ kind_last c.args.row.kind q.kind d.not-Pick d.not-IfGoto d.not-Goto in
    let n = needed_row e k _ (c.from-needed.ensures ∙ q.row.needed_is) (omega (arith, s)) in
    let l = left_row e k _ (c.from-left.ensures ∙ q.row.left_is) (omega (arith, s)) in
    let x = c.in_ok-after-in_default.ensures e k n l (off_halts e k (ap goes_on s)) in
    stepped e k _ _ _ _ q.row.kind_is x refl c.flowing-in_default.ensures (brings_none e k _ _ _ _ _ (omega (arith, s)) (omega (arith, s)))
