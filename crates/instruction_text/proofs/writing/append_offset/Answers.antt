use Prim.Native.Nat.{ℕ}
use mathlib.Core.List.{[], List, ◌∷◌, ◌++◌}
use Rattle.text_buffer.specs.Decimal.{decimal}
use Rattle.text_buffer.proofs.Promises.{appends_then, appends_same, appends_number}
use Rattle.instruction_text.proofs.Texting.{aligned_one, aligned_two, aligned_more}
use Rattle.instruction_text.proofs.writing.append_offset.Goals as goal

pub returns-then-offset-lt10-clause-text : goal.returns-then-offset-lt10-clause-text
returns-then-offset-lt10-clause-text c = let v = c.args.offset in let s : List ℕ = 32 ∷ 32 ∷ [] in appends_same (s ++ decimal v) _ (aligned_one v c.if-offset-lt10.true) (appends_then s (decimal v) c.append.ensures.text (appends_number v c.append_number.ensures.text))

pub returns-then-offset-lt100-clause-text : goal.returns-then-offset-lt100-clause-text
returns-then-offset-lt100-clause-text c = let v = c.args.offset in let s : List ℕ = 32 ∷ [] in appends_same (s ++ decimal v) _ (aligned_two v c.if-offset-lt10.false c.if-offset-lt100.true) (appends_then s (decimal v) c.append-then-offset-lt100.ensures.text (appends_number v c.append_number-then-offset-lt100.ensures.text))

pub returns-clause-text : goal.returns-clause-text
returns-clause-text c = let v = c.args.offset in appends_same (decimal v) _ (aligned_more v c.if-offset-lt100.false) (appends_number v c.append_number-2.ensures.text)
