use Rattle.std.proofs.Common.{rules}
use Prim.Native.Nat.{ℕ, ◌+◌, ◌-◌}
use mathlib.Core.List.{[], List, ◌∷◌, ◌++◌}
use Rattle.text_buffer.specs.Decimal.{decimal}
use Rattle.text_buffer.proofs.Promises.{appends_then, appends_same, appends_number}
use Rattle.phrases.proofs.Numbering.{signed_low, signed_high}
use native.Mathlib.Omega.{arith}
use Rattle.phrases.proofs.numbers.append_signed.Goals as goal

pub returns-then-value-lt9223372036854775808 : goal.returns-then-value-lt9223372036854775808
returns-then-value-lt9223372036854775808 c = let v = c.args.value in record { count = c.append_number.ensures.count; text = appends_same (decimal v) _ (signed_low v c.if-value-lt9223372036854775808.true) (appends_number v c.append_number.ensures.text); lent = search rules }

pub returns : goal.returns
returns c = let v = c.args.value in let s : List ℕ = 45 ∷ [] in let u = 18446744073709551615 - v + 1 in record { count = c.append_number-2.ensures.count; text = appends_same (s ++ decimal u) _ (signed_high v c.if-value-lt9223372036854775808.false (omega arith)) (appends_then s (decimal u) c.append.ensures.text (appends_number u c.append_number-2.ensures.text)); lent = search rules }
