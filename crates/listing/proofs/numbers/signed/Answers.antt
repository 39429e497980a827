use mathlib.Core.Path.{◌∙◌, sym, ap}
use Rattle.std.proofs.lemmas.Result.{err_from_is_err_and}
use Rattle.encoding.proofs.Promises.{part_lent}
use Rattle.line_words.specs.Numbers.{number_in}
use Rattle.listing.specs.Numbers.{negated}
use Rattle.listing.proofs.Numbering.{signed_minus, signed_plain}
use Rattle.listing.proofs.numbers.signed.Goals as goal

pub returns-in_err-unsigned : goal.returns-in_err-unsigned
unfolding negated
returns-in_err-unsigned c =
    let p = err_from_is_err_and c.from_residual.result c.from_residual.ensures.1 in
    rw (p.1, p.2)
    (ap negated (sym c.in_err-unsigned.was ∙ c.unsigned.ensures ∙ ap (number_in 10) (part_lent c.args.word.now 1)) ∙ signed_minus _ c.if-word-eq45.true)

pub returns-then-word-eq45 : goal.returns-then-word-eq45
returns-then-word-eq45 c =
    c.negative.ensures
    ∙ ap negated (sym c.in_ok-unsigned.was ∙ c.unsigned.ensures ∙ ap (number_in 10) (part_lent c.args.word.now 1))
    ∙ signed_minus _ c.if-word-eq45.true

pub returns : goal.returns
returns c = c.unsigned-2.ensures ∙ signed_plain _ c.if-word-eq45.false
