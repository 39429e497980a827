use Prim.Native.Nat.{ℕ}
use mathlib.Core.List.{[], List, ◌∷◌, ◌++◌}
use Rattle.phrases.specs.Numbers.{signed_text}
use Rattle.text_buffer.proofs.Promises.{appends_then, appends_same}
use Rattle.instruction_text.proofs.Texting.{operand_none, operand_some}
use Rattle.instruction_text.proofs.writing.append_operand.Goals as goal

pub returns-then-count-eq0-clause-text : goal.returns-then-count-eq0-clause-text
returns-then-count-eq0-clause-text c =
    let a = c.args in
    appends_same [] _ (operand_none a.count a.value c.if-count-eq0.true) c.append.ensures.text

pub returns-clause-text : goal.returns-clause-text
returns-clause-text c =
    let a = c.args in
    let s : List ℕ = 32 ∷ [] in
    appends_same (s ++ signed_text a.value) _ (operand_some a.count a.value c.if-count-eq0.false)
    (appends_then s (signed_text a.value) c.append-2.ensures.text c.append_signed.ensures.text)
