use borrow.Author.Rules.{rules}
use Rattle.heights.proofs.Turning.{filling_begin, no_mark_start, filling_end}
use Rattle.heights.proofs.fill.Goals as goal

pub loop-at-init : goal.loop-at-init
loop-at-init c = rw c.requires.blank (filling_begin c.requires.acceptable, no_mark_start)

pub returns : goal.returns
returns c = record { arrivals = filling_end c.loop-at.invariant.0 (search rules); no_mark = c.loop-at.invariant.1 }
