use Rattle.std.proofs.Common.{rules}
use mathlib.Core.Path.{ap}
use Rattle.refusals.specs.Numbers.{number_of}
use Rattle.refusals.specs.Refusal.{told}
use Rattle.text_buffer.proofs.Promises.{appends_same}
use Rattle.verify_lines.proofs.Answering.{of_none, of_some, size_reason}
use Rattle.verify_lines.proofs.verdict_line.append_instruction.Goals as goal

pub returns-in-ExpressionSize : goal.returns-in-ExpressionSize
returns-in-ExpressionSize c =
    let a = c.args in
    record {
      count = c.append.ensures.count;
      text = appends_same _ _ (of_none a.code.now (told a.refusal) (ap number_of c.in-ExpressionSize.is)) c.append.ensures.text;
      lent = search rules;
    }

pub returns-in_default : goal.returns-in_default
returns-in_default c =
    let a = c.args in
    record {
      count = c.append_there.ensures.count;
      text = appends_same _ _ (of_some a.code.now (told a.refusal) (λ q. c.in_default.not-ExpressionSize (size_reason a.refusal.reason q))) c.append_there.ensures.text;
      lent = search rules;
    }
