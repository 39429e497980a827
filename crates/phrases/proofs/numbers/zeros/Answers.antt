use native.Mathlib.Omega.{arith}
use Rattle.phrases.proofs.Numbering.{skip_start, skip_on, skip_short, skip_counts, skip_zero}
use Rattle.phrases.proofs.numbers.zeros.Goals as goal

pub loop-n-init : goal.loop-n-init
loop-n-init c = skip_start _

pub returns-then-figures-n-eq1 : goal.returns-then-figures-n-eq1
returns-then-figures-n-eq1 c = record { place = skip_short c.loop-n.invariant (omega arith); within = c.loop-n.invariant.within }

pub returns-then-figure-ne48 : goal.returns-then-figure-ne48
returns-then-figure-ne48 c = record { place = skip_counts c.loop-n.invariant c.if-figure-ne48.true; within = c.loop-n.invariant.within }

pub loop-n-preserved : goal.loop-n-preserved
loop-n-preserved c = skip_zero c.loop-n.invariant c.loop-n-test.true c.if-figures-n-eq1.false c.if-figure-ne48.false

pub returns-clause-place : goal.returns-clause-place
returns-clause-place c = skip_short (skip_on c.loop-n.invariant (omega arith)) (omega arith)
