use Rattle.std.proofs.Common.{rules}
use Rattle.text_buffer.proofs.Promises.{one, more}
use Rattle.text_buffer.specs.Text.{bytes_of}
use Rattle.phrases.specs.Refused.{refusal_of, refused_at}
use Rattle.refusals.specs.Numbers.{number_of}
use Rattle.refusals.specs.Refusal.{told}
use Rattle.verify_lines.specs.Verdict.{instruction_of, refused_line}
use Rattle.verify_lines.proofs.verdict_line.append_refused.Goals as goal

pub returns : goal.returns
unfolding refused_line
returns c =
    let a = c.args in
    let n = number_of a.refusal.reason in
    let q = c.number-number.ensures in
    record {
      count = c.append-2.ensures.count;
      text = (more (more (more (more (one (refused_at n a.refusal.offset) (rw q at c.append_refused_at.ensures.text))
          (instruction_of a.code.now (told a.refusal)) c.append_instruction.ensures.text) (bytes_of ": ") c.append.ensures.text)
          (bytes_of (refusal_of n)) (rw q at c.append_refusal.ensures.text)) (bytes_of "\n") c.append-2.ensures.text).text;
      lent = search rules;
    }
