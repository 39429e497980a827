use Rattle.std.proofs.Common.{rules}
use mathlib.Core.Path.{sym, ap}
use Rattle.text_buffer.proofs.Promises.{appends_same}
use Rattle.verdict.specs.Verdict.{verdict_of}
use Rattle.verify_lines.specs.Verdict.{verdict_text}
use Rattle.verify_lines.proofs.verdict_line.append_verdict.Goals as goal

pub returns-in-Ok : goal.returns-in-Ok
unfolding verdict_text
returns-in-Ok c =
    let a = c.args in
    record {
      count = c.append_accepted.ensures.count;
      text = appends_same _ _ (ap (verdict_text a.code.now) (ap verdict_of (sym c.in-Ok.is))) c.append_accepted.ensures.text;
      lent = search rules;
    }

pub returns-in-Err : goal.returns-in-Err
unfolding verdict_text
returns-in-Err c =
    let a = c.args in
    record {
      count = c.append_refused.ensures.count;
      text = appends_same _ _ (ap (verdict_text a.code.now) (ap verdict_of (sym c.in-Err.is))) c.append_refused.ensures.text;
      lent = search rules;
    }
