use Rattle.std.proofs.Common.{sym, arith}
use Rattle.std.proofs.lemmas.Result.{err_from_is_err_and}
use Rattle.refusals.proofs.Promises.{number_some}
use Rattle.memory.proofs.Fetching.{spans_refused, refused_none, refusal_short, refusal_none, short_none, fetch_lends}
use Rattle.memory.proofs.lend.Goals as goal

pub returns-in_err-memory-clause-number : goal.returns-in_err-memory-clause-number
returns-in_err-memory-clause-number c =
    let p = err_from_is_err_and c.from_residual.result c.from_residual.ensures.1 in
    rw (p.1, p.2) (spans_refused _ (number_some _) c.in_err-memory.ensures.number _ _)

pub returns-in_err-memory-clause-none : goal.returns-in_err-memory-clause-none
returns-in_err-memory-clause-none c =
    let p = err_from_is_err_and c.from_residual.result c.from_residual.ensures.1 in
    let s = number_some c.in_err-memory.field-0.0 in
    rw p.1 (refused_none _ _ _ s (spans_refused _ s c.in_err-memory.ensures.number _ _))

pub returns-then-rest-size-clause-number : goal.returns-then-rest-size-clause-number
returns-then-rest-size-clause-number c =
    refusal_short _ (sym c.in_ok-memory.ensures.number) _ (rw c.in_ok-memory.ensures.same at c.rest-rest.ensures) (omega arith)

pub returns-then-rest-size-clause-none : goal.returns-then-rest-size-clause-none
returns-then-rest-size-clause-none c =
    short_none _ (sym c.in_ok-memory.ensures.number) _ (rw c.in_ok-memory.ensures.same at c.rest-rest.ensures) (omega arith)

pub returns-clause-number : goal.returns-clause-number
returns-clause-number c =
    refusal_none _ (sym c.in_ok-memory.ensures.number) _ (rw c.in_ok-memory.ensures.same at c.rest-rest.ensures) (omega arith)

pub returns-clause-part : goal.returns-clause-part
returns-clause-part c =
    fetch_lends _ (sym c.in_ok-memory.ensures.number) _ (rw c.in_ok-memory.ensures.same at c.rest-rest.ensures) (omega arith)
