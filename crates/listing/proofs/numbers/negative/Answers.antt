use Rattle.listing.proofs.Numbering.{negated_zero, negated_value, negated_large}
use Rattle.listing.proofs.numbers.negative.Goals as goal

pub returns-then-number-eq0 : goal.returns-then-number-eq0
returns-then-number-eq0 c = negated_zero _ c.if-number-eq0.true

pub returns-then-number-le9223372036854775808 : goal.returns-then-number-le9223372036854775808
returns-then-number-le9223372036854775808 c = negated_value _ c.if-number-eq0.false c.if-number-le9223372036854775808.true

pub returns : goal.returns
returns c = negated_large _ c.if-number-eq0.false c.if-number-le9223372036854775808.false
