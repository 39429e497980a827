use native.Mathlib.Omega.{arith}
use Rattle.listing.proofs.Parting.{part_none, part_some}
use Rattle.listing.proofs.parts.next_part.Goals as goal

pub returns-then-start-text : goal.returns-then-start-text
returns-then-start-text c = part_none c.args.text.now c.scope_from-start.ensures c.if-start-text.true

pub line_end-requires : goal.line_end-requires
line_end-requires c = omega (arith, c.scope_from-start.ensures.within, c.if-start-text.false)

pub scope_from-end-requires : goal.scope_from-end-requires
scope_from-end-requires c = c.line_end.ensures.within

pub returns : goal.returns
returns c = part_some c.args.text.now c.scope_from-start.ensures c.line_end.ensures c.scope_from-end.ensures
