use mathlib.Core.Path.{sym, ◌∙◌}
use Rattle.text_buffer.proofs.Promises.{appends_same}
use Rattle.instruction_text.proofs.Texting.{plain_none, plain_some}
use Rattle.instruction_text.proofs.writing.append_plain.Goals as goal

pub returns-then-not-is_instruction-clause-text : goal.returns-then-not-is_instruction-clause-text
returns-then-not-is_instruction-clause-text c =
    let a = c.args in
    appends_same _ _ (plain_none a.code.now a.offset (sym c.is_instruction.ensures ∙ c.if-not-is_instruction.true)) c.append.ensures.text

pub append_named-requires : goal.append_named-requires
append_named-requires c = sym c.is_instruction.ensures ∙ c.if-not-is_instruction.false

pub returns-clause-text : goal.returns-clause-text
returns-clause-text c =
    let a = c.args in
    appends_same _ _ (plain_some a.code.now a.offset (sym c.is_instruction.ensures ∙ c.if-not-is_instruction.false)) c.append_named.ensures.text
