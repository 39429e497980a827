use Rattle.std.proofs.Common.{sym, ◌∙◌}
use Rattle.memory.proofs.Spanning.{spans_image_past, spans_work_past, spans_share, spans_none}
use Rattle.memory.proofs.spans_refusal_clearing.Goals as goal

pub returns-then-ends_past-clause-number : goal.returns-then-ends_past-clause-number
returns-then-ends_past-clause-number c = spans_image_past _ (sym c.ends_past.ensures.0 ∙ c.if-ends_past.true)

pub returns-then-ends_past-2-clause-number : goal.returns-then-ends_past-2-clause-number
returns-then-ends_past-2-clause-number c =
    spans_work_past _ (sym c.ends_past.ensures.0 ∙ c.if-ends_past.false) (sym c.ends_past-2.ensures.0 ∙ c.if-ends_past-2.true)

pub returns-then-share_address-clause-number : goal.returns-then-share_address-clause-number
returns-then-share_address-clause-number c =
    spans_share _ (sym c.ends_past.ensures.0 ∙ c.if-ends_past.false) (sym c.ends_past-2.ensures.0 ∙ c.if-ends_past-2.false)
    (sym c.share_address.ensures.0 ∙ c.if-share_address.true)

pub invariant_of-result : goal.invariant_of-result
invariant_of-result c =
    record {
      allowed = sym (spans_none _ (sym c.ends_past.ensures.0 ∙ c.if-ends_past.false) (sym c.ends_past-2.ensures.0 ∙ c.if-ends_past-2.false)
          (sym c.share_address.ensures.0 ∙ c.if-share_address.false));
    }
