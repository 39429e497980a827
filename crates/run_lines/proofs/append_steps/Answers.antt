use Rattle.std.proofs.Common.{rules}
use Rattle.text_buffer.proofs.Promises.{one, more}
use Rattle.text_buffer.specs.Text.{bytes_of}
use Rattle.phrases.specs.Numbers.{count_text}
use Rattle.run_lines.specs.Outcome.{steps_text}
use Rattle.run_lines.proofs.append_steps.Goals as goal

pub returns : goal.returns
unfolding steps_text
returns c =
    let a = c.args in
    record {
      count = c.append-2.ensures.count;
      text = (more (more (one (bytes_of " after ") c.append.ensures.text) (count_text a.steps (bytes_of "step")) c.append_count.ensures.text)
          (bytes_of ": ") c.append-2.ensures.text).text;
      lent = search rules;
    }
