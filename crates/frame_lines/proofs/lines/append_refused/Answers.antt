use Rattle.std.proofs.Common.{rules}
use Rattle.std.proofs.Common.{◌≡◌}
use Rattle.refusals.specs.Numbers.{number_of}
use Rattle.text_buffer.proofs.Promises.{one, more}
use Rattle.text_buffer.specs.Text.{bytes_of}
use Rattle.phrases.specs.Refused.{refusal_of, refused_at}
use Rattle.frame_lines.specs.Lines.{frame_refused_text}
use Rattle.frame_lines.proofs.lines.append_refused.Goals as goal

pub returns : goal.returns
unfolding frame_refused_text
returns c =
    let a = c.args in
    let number : c.number-number.result ≡ number_of a.refusal.reason = c.number-number.ensures in
    record {
      count = c.append_refusal.ensures.count;
      text = rw (← number) (more (more (one (refused_at c.number-number.result a.refusal.offset) c.append_refused_at.ensures.text) (bytes_of ": ")
          c.append.ensures.text) (bytes_of (refusal_of c.number-number.result)) c.append_refusal.ensures.text).text;
      lent = search rules;
    }
