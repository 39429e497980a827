use mathlib.Core.Path.{sym, ap, ◌∙◌}
use native.Mathlib.Omega.{arith}
use lib.ListN.{length-drop}
use Rattle.std.proofs.lemmas.Result.{err_from_is_err_and}
use Rattle.encoding.proofs.Promises.{part_lent}
use Rattle.hexadecimal.specs.Hex.{line_length, is_prefixed}
use Rattle.hexadecimal.specs.Told.{token_told}
use Rattle.hexadecimal.proofs.Hexing.{line_is, prefixed_long, token_separator, token_comment, prefixed_token, digits_token}
use Rattle.hexadecimal.proofs.token_at.Goals as goal

pub returns-then-is_separator : goal.returns-then-is_separator
returns-then-is_separator c = ap token_told (token_separator _ _ c.requires (sym c.is_separator.ensures ∙ c.if-is_separator.true))

pub returns-then-c-eq35 : goal.returns-then-c-eq35
returns-then-c-eq35 c =
    let a = c.args in
    let n = c.line_length.ensures ∙ line_is _ ∙ ap line_length (part_lent a.text.now a.at) in
    ap token_told (token_comment _ _ c.requires (sym c.is_separator.ensures ∙ c.if-is_separator.false) c.if-c-eq35.true _ n)

pub prefixed_at-requires : goal.prefixed_at-requires
prefixed_at-requires c =
    let a = c.args in
    omega (arith, prefixed_long _ (sym c.is_prefixed.ensures ∙ c.if-is_prefixed.true), length-drop a.at a.text.now)

pub returns-in_err-prefixed_at : goal.returns-in_err-prefixed_at
returns-in_err-prefixed_at c =
    let p = err_from_is_err_and c.from_residual.result c.from_residual.ensures.1 in
    let e = sym c.is_prefixed.ensures ∙ c.if-is_prefixed.true in
    let a = c.args in
    rw (p.1, p.2)
    (prefixed_token _ _ c.requires (sym c.is_separator.ensures ∙ c.if-is_separator.false) c.if-c-eq35.false _ (ap is_prefixed (sym (part_lent a.text.now a.at)) ∙ e) (sym c.in_err-prefixed_at.was ∙ c.prefixed_at.ensures))

pub returns-then-is_prefixed : goal.returns-then-is_prefixed
returns-then-is_prefixed c =
    let e = sym c.is_prefixed.ensures ∙ c.if-is_prefixed.true in
    let a = c.args in
    prefixed_token _ _ c.requires (sym c.is_separator.ensures ∙ c.if-is_separator.false) c.if-c-eq35.false _ (ap is_prefixed (sym (part_lent a.text.now a.at)) ∙ e) (sym c.in_ok-prefixed_at.was ∙ c.prefixed_at.ensures)

pub returns-in_err-digits_at : goal.returns-in_err-digits_at
returns-in_err-digits_at c =
    let r = c.from_residual-in_err-digits_at in
    let p = err_from_is_err_and r.result r.ensures.1 in
    let e = sym c.is_prefixed.ensures ∙ c.if-is_prefixed.false in
    let a = c.args in
    rw (p.1, p.2)
    (digits_token _ _ c.requires (sym c.is_separator.ensures ∙ c.if-is_separator.false) c.if-c-eq35.false _ (ap is_prefixed (sym (part_lent a.text.now a.at)) ∙ e) (sym c.in_err-digits_at.was ∙ c.digits_at.ensures))

pub returns : goal.returns
returns c =
    let e = sym c.is_prefixed.ensures ∙ c.if-is_prefixed.false in
    let a = c.args in
    digits_token _ _ c.requires (sym c.is_separator.ensures ∙ c.if-is_separator.false) c.if-c-eq35.false _ (ap is_prefixed (sym (part_lent a.text.now a.at)) ∙ e) (sym c.in_ok-digits_at.was ∙ c.digits_at.ensures)
