use native.Mathlib.Omega.{arith}
use Rattle.text_buffer.proofs.Tables.{trimming_start, trimming_on, trimming_stop, trimming_end}
use Rattle.text_buffer.proofs.rows.row_length.Goals as goal

pub loop-n-init : goal.loop-n-init
loop-n-init c = trimming_start _

pub returns-then-row-n-ne32 : goal.returns-then-row-n-ne32
returns-then-row-n-ne32 c = let i = c.loop-n.invariant in (omega (arith, trimming_stop i c.loop-n-test.true c.if-row-n-ne32.true, c.loop-n-test.true), omega (arith, i.within, c.loop-n-test.true))

pub loop-n-preserved : goal.loop-n-preserved
loop-n-preserved c = trimming_on c.loop-n.invariant c.loop-n-test.true c.if-row-n-ne32.false

pub returns : goal.returns
returns c = (omega (arith, trimming_end c.loop-n.invariant c.loop-n-test.false, c.loop-n-test.false), omega arith)
