use Rattle.std.proofs.Common.{◌≡◌, subst, ◌∙◌, arith}
use Rattle.memory.specs.Spans.{target_of}
use Rattle.memory.specs.Fetch.{fetch_refusal}
use Rattle.memory.specs.declared.Target.{Target}
use Rattle.refusals.proofs.Promises.{number_some}
use Rattle.lilivrez_agent.specs.Lent.{lent_at, fetch_values}
use Rattle.lilivrez_agent.proofs.Lending.{spans_refused}
use Rattle.lilivrez_agent.proofs.fetching.lilivrez_fetch.Goals as goal

pub returns-in-Err : goal.returns-in-Err
returns-in-Err c =
    let r = spans_refused _ _ _ c.in-Err.ensures.number (λ z. omega (arith, number_some c.in-Err.reason, z)) in
    record { number = c.from.ensures ∙ c.number.ensures ∙ r.0; values = c.in-Err.ensures.clears ∙ r.1 }

pub returns-in-Ok : goal.returns-in-Ok
returns-in-Ok c =
    let a = c.args in
    let e = c.fetch_from.ensures in record {
      number = subst (λ (t : Target). c.fetch_from.result ≡ fetch_refusal (target_of t) a.address a.size) c.in-Ok.ensures.same e.number;
      values = subst (λ (t : Target). c.fetch_from.new.out ≡ fetch_values (lent_at (target_of t) a.address a.size)) c.in-Ok.ensures.same e.values;
    }
