use Rattle.std.proofs.Common.{rules}
use mathlib.Core.Path.{sym, ◌∙◌}
use Rattle.text_buffer.proofs.Promises.{appends_same, one, more}
use Rattle.text_buffer.specs.Text.{bytes_of}
use Rattle.instruction_text.specs.Text.{plain_at}
use Rattle.verify_lines.proofs.Answering.{there_none, there_opcode, there_instruction}
use Rattle.verify_lines.proofs.verdict_line.append_there.Goals as goal

pub returns-then-code-offset : goal.returns-then-code-offset
returns-then-code-offset c = let a = c.args in record { count = c.append.ensures.count; text = appends_same _ _ (there_none a.code.now a.offset c.if-code-offset.true) c.append.ensures.text; lent = search rules }

pub returns-then-not-is_instruction : goal.returns-then-not-is_instruction
returns-then-not-is_instruction c =
    let a = c.args in
    record {
      count = c.append_opcode.ensures.count;
      text = appends_same _ _ (there_opcode a.code.now a.offset c.if-code-offset.false (sym c.is_instruction.ensures ∙ c.if-not-is_instruction.true))
          c.append_opcode.ensures.text;
      lent = search rules;
    }

pub returns : goal.returns
returns c =
    let a = c.args in
    record {
      count = c.append-3.ensures.count;
      text = appends_same _ _ (there_instruction a.code.now a.offset c.if-code-offset.false
          (sym c.is_instruction.ensures ∙ c.if-not-is_instruction.false))
          (more (more (one (bytes_of " (") c.append-2.ensures.text) (plain_at a.code.now a.offset) c.append_plain.ensures.text) (bytes_of ")")
          c.append-3.ensures.text).text;
      lent = search rules;
    }
