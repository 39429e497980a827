use mathlib.Core.Path.{refl, sym}
use Rattle.std.proofs.lemmas.Result.{err_from_is_err_and}
use Rattle.verdict.proofs.Promises.{accepted_means}
use Rattle.heights.proofs.Turning.{marked_none, no_mark_none}
use Rattle.heights.proofs.heights.Goals as goal

pub fill-requires : goal.fill-requires
fill-requires c = record { acceptable = (accepted_means _ (sym c.in_ok-accepted.ensures)).acceptable; blank = refl }

pub returns-in_err-accepted : goal.returns-in_err-accepted
returns-in_err-accepted c =
    let p = err_from_is_err_and c.from_residual.result c.from_residual.ensures.1 in
    let q = c.in_err-accepted.ensures in
    record {
      answered = rw (p.1, p.2) (record { answer = q; cells = rw (← q) (marked_none 1024) });
      no_mark = no_mark_none 1024;
    }

pub returns : goal.returns
returns c =
    let q = c.in_ok-accepted.ensures in
    record { answered = record { answer = q; cells = rw (← q) c.fill.ensures.arrivals }; no_mark = c.fill.ensures.no_mark }
