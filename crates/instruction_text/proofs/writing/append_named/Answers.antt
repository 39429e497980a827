use mathlib.Core.Path.{refl, ◌∙◌}
use lib.ListN.{get_or}
use Rattle.text_buffer.proofs.Promises.{appends_same, one, more}
use Rattle.instruction_text.specs.Names.{name_of}
use Rattle.instruction_text.specs.Text.{operand_text}
use Rattle.instruction_text.proofs.Texting.{instructed, named_parts}
use Rattle.instruction_text.proofs.writing.append_named.Goals as goal

pub bounds-code-offset : goal.bounds-code-offset
bounds-code-offset c = (instructed _ _ c.requires).inside

pub operand_at-operand-requires : goal.operand_at-operand-requires
operand_at-operand-requires c = record { count = c.from-count.ensures ∙ c.look_up.ensures.operands_is; within = (instructed _ _ c.requires).whole }

pub returns-clause-text : goal.returns-clause-text
returns-clause-text c =
    let a = c.args in
    let e = a.code.now in
    let k = a.offset in
    let n = c.from-count in
    let v = c.operand_at-operand in
    appends_same _ _ (named_parts e k (get_or e k 0) n.result v.result refl (n.ensures ∙ c.look_up.ensures.operands_is) v.ensures.0)
    (more (one (name_of (get_or e k 0)) c.append_name.ensures.text) (operand_text n.result v.result) c.append_operand.ensures.text).text
