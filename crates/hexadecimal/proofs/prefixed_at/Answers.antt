use mathlib.Core.Path.{refl, sym, ap, ◌∙◌}
use mathlib.Core.Bool.{Bool}
use Prim.Native.Nat.{◌+◌}
use Rattle.std.specs.Prelude.{Ok}
use Rattle.std.proofs.lemmas.Result.{err_from_is_err_and}
use Rattle.hexadecimal.specs.Told.{digit_found}
use Rattle.hexadecimal.proofs.Hexing.{prefixing, prefixed_by}
use Rattle.hexadecimal.proofs.prefixed_at.Goals as goal

pub returns-in_err-byte : goal.returns-in_err-byte
returns-in_err-byte c =
    let a = c.args in
    let p = err_from_is_err_and c.from_residual.result c.from_residual.ensures.1 in
    rw (p.1, p.2) (prefixed_by a.text.now a.at _ (digit_found a.text.now (a.at + 4)) (sym c.in_err-byte.was ∙ c.digits_at.ensures) refl)

pub returns-then-is_ok : goal.returns-then-is_ok
returns-then-is_ok c =
    let a = c.args in
    let x = c.in_ok-byte.byte in
    ap (λ (t : Bool). prefixing a.at (Ok x) t) (sym c.if-is_ok.true ∙ c.is_ok.ensures.value)
    ∙ prefixed_by a.text.now a.at _ _ (sym c.in_ok-byte.was ∙ c.digits_at.ensures) c.digit_at.ensures

pub returns : goal.returns
returns c =
    let a = c.args in
    let x = c.in_ok-byte.byte in
    ap (λ (t : Bool). prefixing a.at (Ok x) t) (sym c.if-is_ok.false ∙ c.is_ok.ensures.value)
    ∙ prefixed_by a.text.now a.at _ _ (sym c.in_ok-byte.was ∙ c.digits_at.ensures) c.digit_at.ensures
