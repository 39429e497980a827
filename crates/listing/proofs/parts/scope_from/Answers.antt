use Rattle.listing.proofs.Parting.{seeking_start, seeking_on, seeking_stop, seeking_end}
use Rattle.listing.proofs.parts.scope_from.Goals as goal

pub loop-start-init : goal.loop-start-init
loop-start-init c = seeking_start _ _ c.requires

pub returns-then-is_scope : goal.returns-then-is_scope
returns-then-is_scope c = seeking_stop c.loop-start.invariant c.line_end-end.ensures _ c.is_scope.ensures c.if-is_scope.true

pub loop-start-preserved : goal.loop-start-preserved
loop-start-preserved c = seeking_on c.loop-start.invariant c.line_end-end.ensures _ c.is_scope.ensures c.if-is_scope.false

pub returns : goal.returns
returns c = seeking_end c.loop-start.invariant c.loop-start-test.false
