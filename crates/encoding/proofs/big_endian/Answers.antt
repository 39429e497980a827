use native.Mathlib.Omega.{arith}
use Rattle.encoding.proofs.Reading.{reading_start, reading_room, reading_turn, reading_end}
use Rattle.encoding.proofs.big_endian.Goals as goal

pub loop-read-init : goal.loop-read-init
loop-read-init c = reading_start c.args.bytes.now c.args.at c.args.count

pub overflow_mul-number : goal.overflow_mul-number
overflow_mul-number c = omega (arith, reading_room c.loop-read.invariant c.requires.count c.loop-read-test.true)

pub overflow_add-number : goal.overflow_add-number
overflow_add-number c = omega (arith, reading_room c.loop-read.invariant c.requires.count c.loop-read-test.true, c.from.ensures)

pub loop-read-preserved : goal.loop-read-preserved
loop-read-preserved c = reading_turn c.loop-read.invariant c.loop-read-test.true c.from.ensures (omega arith)

pub returns : goal.returns
returns c = reading_end c.loop-read.invariant c.loop-read-test.false
