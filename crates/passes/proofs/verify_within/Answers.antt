use mathlib.Core.Path.{sym, ◌∙◌}
use borrow.Author.Rules.{rules}
use Rattle.std.proofs.lemmas.Result.{err_from_is_err_and}
use Rattle.verdict.proofs.Deciding.{verdict_1, verdict_2, verdict_3}
use Rattle.passes.proofs.Scanning.{unmarked_new}
use Rattle.passes.proofs.Measuring.{unmeasured_new}
use Rattle.passes.proofs.verify_within.Goals as goal

pub new-found-requires : goal.new-found-requires
new-found-requires g c = search rules

pub new-brought-requires : goal.new-brought-requires
new-brought-requires g c = search rules

pub scan-requires : goal.scan-requires
scan-requires g c =
    let n = c.new-found.ensures in let r = c.requires.room in
    (search rules, (c.requires.size.1, (rw (n.0, n.1) (unmarked_new _ _ _ r.0 r.1), n.2)))

pub returns-in_err-count : goal.returns-in_err-count
returns-in_err-count g c =
    let s = c.requires.size in
    let p = err_from_is_err_and c.from_residual.result c.from_residual.ensures.1 in
    rw (p.1, p.2) (verdict_1 _ s.0 s.1 _ c.in_err-count.ensures)

pub aim-requires : goal.aim-requires
aim-requires g c = let d = c.in_ok-count.ensures in (search rules, (c.requires.size.1, d.0, d.2, d.3))

pub returns-in_err-aim : goal.returns-in_err-aim
returns-in_err-aim g c =
    let s = c.requires.size in let d = c.in_ok-count.ensures in
    let p = err_from_is_err_and c.from_residual-in_err-aim.result c.from_residual-in_err-aim.ensures.1 in
    rw (p.1, p.2) (verdict_2 _ s.0 s.1 d.0 _ c.in_err-aim.ensures)

pub measure-requires : goal.measure-requires
measure-requires g c =
    let d = c.in_ok-count.ensures in let n = c.new-brought.ensures in
    (search rules, ((c.requires.size.1, d.0, c.in_ok-aim.ensures), (d.1, rw (n.0, n.1) (unmeasured_new _ _ c.requires.room.0))))

pub returns : goal.returns
returns g c =
    let s = c.requires.size in let d = c.in_ok-count.ensures in
    c.measure.ensures ∙ sym (verdict_3 _ s.0 s.1 d.0 c.in_ok-aim.ensures)
