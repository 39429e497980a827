use Rattle.std.proofs.Common.{rules}
use mathlib.Core.List.{◌++◌}
use mathlib.Core.Path.{◌≡◌, refl}
use Rattle.text_buffer.proofs.Promises.{appends_same, one, more}
use Rattle.refusals.specs.Refusal.{told}
use Rattle.text_buffer.specs.Text.{bytes_of}
use Rattle.phrases.specs.Refused.{refusal_of, refused_at}
use Rattle.run_lines.specs.Outcome.{steps_text, instruction_line, refused_text}
use Rattle.run_lines.proofs.append_refused.Goals as goal

pub returns : goal.returns
unfolding refused_text
returns c =
    let a = c.args in
    let n = c.number-number.result in
    let e : refused_at n a.refusal.offset ++ steps_text a.refusal.steps ++ bytes_of (refusal_of n) ++ bytes_of "\n" ++ instruction_line a.code.now (told a.refusal)
    ≡ refused_text a.code.now (told a.refusal) = rw c.number-number.ensures refl in
    record {
      count = c.append_instruction.ensures.count;
      text = appends_same _ _ e (more (more (more (more (one (refused_at n a.refusal.offset) c.append_refused_at.ensures.text)
          (steps_text a.refusal.steps) c.append_steps.ensures.text) (bytes_of (refusal_of n)) c.append_refusal.ensures.text)
          (bytes_of "\n") c.append.ensures.text) (instruction_line a.code.now (told a.refusal)) c.append_instruction.ensures.text).text;
      lent = search rules;
    }
