use Rattle.std.proofs.Common.{rules}
use mathlib.Core.Path.{sym, ap}
use mathlib.Core.Bool.{true, false}
use Rattle.text_buffer.proofs.Promises.{appends_same, one, more}
use Rattle.verdict.specs.Verdict.{verdict_of}
use Rattle.heights.specs.Arrivals.{marked}
use Rattle.verify_lines.specs.Listed.{is_accepted_of}
use Rattle.verify_lines.proofs.Rows.{answer_alone, answer_listed, listed_none}
use Rattle.verify_lines.proofs.listed.append_answer.Goals as goal

pub returns-then-not-is_listed : goal.returns-then-not-is_listed
returns-then-not-is_listed c =
    let e = c.args.code.now in
    let h = c.heights-answer.ensures.answered in
    record { count = c.append_verdict.ensures.count; text = (_, h.cells, appends_same _ _ (answer_alone e _ _ _ h.answer c.args.is_listed c.if-not-is_listed.true) c.append_verdict.ensures.text); lent = search rules }

pub returns-in-Ok : goal.returns-in-Ok
returns-in-Ok c =
    let e = c.args.code.now in
    let h = c.heights-answer.ensures.answered in
    record {
      count = c.append_listing.ensures.count;
      text = (
        _,
        h.cells,
        appends_same _ _ (answer_listed e _ _ _ h.answer c.args.is_listed c.if-not-is_listed.false true (sym (ap (λ r. is_accepted_of (verdict_of r)) c.in-Ok.is)))
            (more (one _ c.append_verdict.ensures.text) _ c.append_listing.ensures.text).text,
      );
      lent = search rules;
    }

pub returns-in-Err : goal.returns-in-Err
returns-in-Err c =
    let e = c.args.code.now in
    let h = c.heights-answer.ensures.answered in
    let hs = marked c.heights-answer.new.heights in
    record {
      count = c.append_listing-in-Err.ensures.count;
      text = (
        hs,
        h.cells,
        appends_same _ _ (answer_listed e _ _ _ h.answer c.args.is_listed c.if-not-is_listed.false false (sym (ap (λ r. is_accepted_of (verdict_of r)) c.in-Err.is)))
            (more (one _ c.append_verdict.ensures.text) _ (appends_same _ _ (listed_none e hs) c.append_listing-in-Err.ensures.text)).text,
      );
      lent = search rules;
    }
