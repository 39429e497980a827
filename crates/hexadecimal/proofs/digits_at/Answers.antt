use mathlib.Core.Path.{refl, sym, ◌∙◌}
use Prim.Native.Nat.{◌+◌}
use Rattle.std.proofs.lemmas.Result.{err_from_is_err_and}
use Rattle.hexadecimal.specs.Told.{digit_found}
use Rattle.hexadecimal.proofs.Hexing.{digits_by}
use Rattle.hexadecimal.proofs.digits_at.Goals as goal

pub returns-in_err-high : goal.returns-in_err-high
returns-in_err-high c =
    let a = c.args in
    let p = err_from_is_err_and c.from_residual.result c.from_residual.ensures.1 in
    rw (p.1, p.2) (digits_by a.text.now a.at _ (digit_found a.text.now (a.at + 1)) (sym c.in_err-high.was ∙ c.digit_at.ensures) refl)

pub returns-in_err-low : goal.returns-in_err-low
returns-in_err-low c =
    let a = c.args in
    let p = err_from_is_err_and c.from_residual-in_err-low.result c.from_residual-in_err-low.ensures.1 in
    rw (p.1, p.2) (digits_by a.text.now a.at _ _ (sym c.in_ok-high.was ∙ c.digit_at.ensures) (sym c.in_err-low.was ∙ c.digit_at-2.ensures))

pub returns : goal.returns
returns c =
    let a = c.args in
    digits_by a.text.now a.at _ _ (sym c.in_ok-high.was ∙ c.digit_at.ensures) (sym c.in_ok-low.was ∙ c.digit_at-2.ensures)
