use borrow.Author.Rules.{rules}
use mathlib.Core.Path.{◌≡◌, refl, ap, ◌∙◌}
use Rattle.listing.proofs.Dividing.{reading_start, taken_on, taken_wrong, reading_end}
use Rattle.listing.proofs.whole.read_listing.Goals as goal

pub loop-start-init : goal.loop-start-init
loop-start-init c = (rw c.new-code.ensures.1 (reading_start _ _), refl)

pub loop-start-preserved : goal.loop-start-preserved
loop-start-preserved c =
    let g = c.loop-start.invariant.0 in
    let t = c.take_line.ensures in
    (taken_on g c.line_end-end.ensures _ _ _ t.answer t.end t.bytes c.in_default.is (t.within g.room), t.lent ∙ c.loop-start.invariant.1)

pub returns-in-Err-clause-answer : goal.returns-in-Err-clause-answer
returns-in-Err-clause-answer c =
    let t = c.take_line.ensures in
    rw (ap (λ b. b.now) c.new-code.ensures.0) at (taken_wrong c.loop-start.invariant.0 c.line_end-end.ensures _ _ _ t.answer t.end t.bytes _ c.in-Err.is).answer

pub returns-in-Err-clause-bytes : goal.returns-in-Err-clause-bytes
returns-in-Err-clause-bytes c =
    let t = c.take_line.ensures in
    let same : c.take_line.new.code.bytes.ghost_name ≡ c.new-code.result.bytes.ghost_name = t.lent ∙ c.loop-start.invariant.1 in
    let left = rw (ap (λ b. b.now) c.new-code.ensures.0) at (taken_wrong c.loop-start.invariant.0 c.line_end-end.ensures _ _ _ t.answer t.end t.bytes _ c.in-Err.is).bytes in
    search rules

pub returns-clause-answer : goal.returns-clause-answer
returns-clause-answer c = rw (ap (λ b. b.now) c.new-code.ensures.0) at (reading_end c.loop-start.invariant.0 c.loop-start-test.false).answer

pub returns-clause-bytes : goal.returns-clause-bytes
returns-clause-bytes c =
    let same : c.loop-start.code.bytes.ghost_name ≡ c.new-code.result.bytes.ghost_name = c.loop-start.invariant.1 in
    let left = rw (ap (λ b. b.now) c.new-code.ensures.0) at (reading_end c.loop-start.invariant.0 c.loop-start-test.false).bytes in
    search rules
