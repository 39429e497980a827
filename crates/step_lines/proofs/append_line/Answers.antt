use Rattle.std.proofs.Common.{rules}
use Rattle.text_buffer.specs.Text.{bytes_of}
use Rattle.text_buffer.proofs.Promises.{one, more}
use Rattle.instruction_text.specs.Text.{plain_at}
use Rattle.step_lines.specs.Step.{place_text, stack_text, step_line}
use Rattle.step_lines.proofs.append_line.Goals as goal

pub returns : goal.returns
unfolding step_line
returns c =
    let a = c.args in record {
      count = c.append-2.ensures.count;
      text = (more (more (more (more (one (place_text a.step a.offset) c.append_place.ensures.text)
          (plain_at a.code.now a.offset) c.append_plain.ensures.text)
          (bytes_of ", stack") c.append.ensures.text)
          (stack_text a.cells.now a.hidden) c.append_stack.ensures.text)
          (bytes_of "\n") c.append-2.ensures.text).text;
      lent = search rules;
    }
