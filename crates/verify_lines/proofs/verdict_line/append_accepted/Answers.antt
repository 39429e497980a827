use Rattle.std.proofs.Common.{rules}
use Rattle.text_buffer.proofs.Promises.{one, more, appends_number}
use Rattle.text_buffer.specs.Text.{bytes_of}
use Rattle.text_buffer.specs.Decimal.{decimal}
use Rattle.phrases.specs.Numbers.{count_text}
use Rattle.verify_lines.specs.Verdict.{accepted_text}
use Rattle.verify_lines.proofs.verdict_line.append_accepted.Goals as goal

pub returns : goal.returns
unfolding accepted_text
returns c =
    let a = c.args in
    record {
      count = c.append-4.ensures.count;
      text = (more (more (more (more (more (more (one (bytes_of "accepted: ") c.append.ensures.text) (count_text a.accepted.count (bytes_of "instruction"))
          c.append_count.ensures.text) (bytes_of ", greatest height ") c.append-2.ensures.text) (decimal a.accepted.greatest)
          (appends_number a.accepted.greatest (rw c.from.ensures at c.append_number.ensures.text))) (bytes_of ", longest walk ") c.append-3.ensures.text) (decimal a.accepted.longest)
          (appends_number a.accepted.longest c.append_number-2.ensures.text)) (bytes_of "\n") c.append-4.ensures.text).text;
      lent = search rules;
    }
