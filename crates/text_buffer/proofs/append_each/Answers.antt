use borrow.Author.Rules.{rules}
use native.Mathlib.Omega.{arith}
use Rattle.text_buffer.proofs.Appending.{appending_start, appending_byte, appending_full, appending_end}
use Rattle.text_buffer.proofs.append_each.Goals as goal

pub loop-i-init : goal.loop-i-init
loop-i-init c = appending_start _ _ _ c.requires

pub loop-i-preserved : goal.loop-i-preserved
loop-i-preserved c = appending_byte c.loop-i.invariant c.if-out-end.false c.loop-i-test.true

pub returns-then-out-end : goal.returns-then-out-end
returns-then-out-end c = appending_full c.loop-i.invariant c.if-out-end.true

pub returns : goal.returns
returns c = appending_end c.loop-i.invariant c.loop-i-test.false
