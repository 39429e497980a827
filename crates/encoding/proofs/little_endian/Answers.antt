use native.Mathlib.Omega.{arith}
use Rattle.encoding.proofs.LittleReading.{ahead_start, ahead_room, ahead_turn, ahead_end}
use Rattle.encoding.proofs.little_endian.Goals as goal

pub loop-read-init : goal.loop-read-init
loop-read-init c = ahead_start _

pub overflow_mul-value : goal.overflow_mul-value
overflow_mul-value c = omega (arith, ahead_room c.loop-read.invariant c.requires c.loop-read-test.true)

pub overflow_add-value : goal.overflow_add-value
overflow_add-value c = omega (arith, ahead_room c.loop-read.invariant c.requires c.loop-read-test.true, c.from.ensures)

pub loop-read-preserved : goal.loop-read-preserved
loop-read-preserved c = ahead_turn c.loop-read.invariant c.loop-read-test.true c.from.ensures (omega arith)

pub returns : goal.returns
returns c = ahead_end c.loop-read.invariant c.loop-read-test.false
