use mathlib.Core.Path.{◌∙◌}
use Rattle.instruction_text.proofs.Promises.{kind_low, kind_high}
use Rattle.listing.proofs.Lining.{name_none, name_unknown, name_alone, name_operand, width_of, none_unknown}
use Rattle.listing.proofs.reading.read_name.Goals as goal

pub returns-then-start-end : goal.returns-then-start-end
returns-then-start-end c = c.wrong.ensures ∙ name_none _ _ c.next_word-word.ensures c.if-start-end.true

pub returns-in-Unknown : goal.returns-in-Unknown
returns-in-Unknown c =
    c.wrong-in-Unknown.ensures ∙ name_unknown _ _ c.next_word-word.ensures c.if-start-end.false _ c.in-Some.ensures.opcode (rw c.look_up-row.ensures.kind_is at (kind_low _ c.in-Unknown.is))

pub returns-then-count-eq0 : goal.returns-then-count-eq0
returns-then-count-eq0 c =
    let k = c.look_up-row.ensures in
    let i = rw k.kind_is at (kind_high _ c.in_default-kind.not-Unknown c.in_default-kind.not-Unsupported) in
    c.ends.ensures
    ∙ name_alone _ _ c.next_word-word.ensures c.if-start-end.false _ c.in-Some.ensures.opcode i _ k.operands_is c.if-count-eq0.true

pub read_operand-requires : goal.read_operand-requires
read_operand-requires c =
    let k = c.look_up-row.ensures in
    let w = c.next_word-word.ensures.within in
    record { at = w; width = width_of c.in-Some.opcode _ (rw k.kind_is at (kind_high _ c.in_default-kind.not-Unknown c.in_default-kind.not-Unsupported)) k.operands_is c.if-count-eq0.false }

pub returns-else-count-eq0 : goal.returns-else-count-eq0
returns-else-count-eq0 c =
    let k = c.look_up-row.ensures in
    let i = rw k.kind_is at (kind_high _ c.in_default-kind.not-Unknown c.in_default-kind.not-Unsupported) in
    c.read_operand.ensures
    ∙ name_operand _ _ c.next_word-word.ensures c.if-start-end.false _ c.in-Some.ensures.opcode i _ k.operands_is c.if-count-eq0.false

pub returns-in_default : goal.returns-in_default
returns-in_default c = c.wrong-in_default.ensures ∙ name_unknown _ _ c.next_word-word.ensures c.if-start-end.false 53 c.in_default.ensures.opcode none_unknown
