use Rattle.std.proofs.Common.{rules}
use mathlib.Core.Path.{sym, ◌∙◌}
use Rattle.text_buffer.proofs.Promises.{appends_same, one, more}
use Rattle.text_buffer.specs.Text.{bytes_of}
use Rattle.instruction_text.specs.Text.{plain_at}
use Rattle.run_lines.proofs.Outcomes.{line_of_none, line_no_whole, line_of_some}
use Rattle.refusals.specs.Refusal.{told}
use Rattle.run_lines.proofs.append_instruction.Goals as goal

pub returns-then-not-is_of_instruction : goal.returns-then-not-is_of_instruction
returns-then-not-is_of_instruction c =
    let a = c.args in
    record {
      count = c.append.ensures.count;
      text = appends_same _ _ (line_of_none a.code.now (told a.refusal) (sym c.is_of_instruction.ensures ∙ c.if-not-is_of_instruction.true))
          c.append.ensures.text;
      lent = search rules;
    }

pub returns-then-not-is_instruction : goal.returns-then-not-is_instruction
returns-then-not-is_instruction c =
    let a = c.args in
    record {
      count = c.append-then-not-is_instruction.ensures.count;
      text = appends_same _ _ (line_no_whole a.code.now (told a.refusal) (sym c.is_of_instruction.ensures ∙ c.if-not-is_of_instruction.false)
          (sym c.is_instruction.ensures ∙ c.if-not-is_instruction.true)) c.append-then-not-is_instruction.ensures.text;
      lent = search rules;
    }

pub returns : goal.returns
returns c =
    let a = c.args in
    record {
      count = c.append-3.ensures.count;
      text = appends_same _ _ (line_of_some a.code.now (told a.refusal) (sym c.is_of_instruction.ensures ∙ c.if-not-is_of_instruction.false)
          (sym c.is_instruction.ensures ∙ c.if-not-is_instruction.false))
          (more (more (one (bytes_of "  instruction: ") c.append-2.ensures.text) (plain_at a.code.now a.refusal.offset) c.append_plain.ensures.text)
          (bytes_of "\n") c.append-3.ensures.text).text;
      lent = search rules;
    }
