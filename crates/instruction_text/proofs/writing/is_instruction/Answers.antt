use mathlib.Core.Path.{◌∙◌}
use Rattle.instruction_text.proofs.Texting.{past_end, not_supported, by_length, kind_low, kind_high}
use Rattle.instruction_text.proofs.writing.is_instruction.Goals as goal

pub returns-then-code-at : goal.returns-then-code-at
returns-then-code-at c = past_end _ _ c.if-code-at.true

pub returns-in-Unknown : goal.returns-in-Unknown
returns-in-Unknown c = not_supported c.args.code.now c.args.at c.if-code-at.false (rw c.look_up-row.ensures.kind_is at (kind_low _ c.in-Unknown.is))

pub returns-in_default : goal.returns-in_default
returns-in_default c = by_length c.args.code.now c.args.at c.if-code-at.false (rw c.look_up-row.ensures.kind_is at (kind_high _ c.in_default.not-Unknown c.in_default.not-Unsupported)) _ (c.from.ensures ∙ c.look_up-row.ensures.operands_is)
