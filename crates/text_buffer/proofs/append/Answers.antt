use native.Mathlib.Omega.{arith}
use Rattle.text_buffer.proofs.Appending.{counts, appends_beyond, appends_inside, appends_copied}
use Rattle.text_buffer.proofs.append.Goals as goal

pub returns-then-out-at-clause-text : goal.returns-then-out-at-clause-text
returns-then-out-at-clause-text c = appends_beyond _ _ _ (omega (arith, c.if-out-at.true))

pub returns-then-bytes-lt4-clause-count : goal.returns-then-bytes-lt4-clause-count
returns-then-bytes-lt4-clause-count c = counts _ _ (appends_inside c.append_each.ensures)

pub returns-clause-text : goal.returns-clause-text
returns-clause-text c = appends_copied _ _ _ c.if-out-at.false c.min-count.ensures c.copy_from_slice.ensures.after
