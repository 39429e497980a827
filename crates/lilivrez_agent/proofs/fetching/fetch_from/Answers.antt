use Rattle.std.proofs.Common.{◌∙◌, arith}
use Rattle.memory.proofs.Promises.{image_index, work_index, image_rest, work_rest, nowhere_rest}
use Rattle.lilivrez_agent.proofs.Lending.{nothing_lent, image_lent, work_lent, none_lent}
use Rattle.lilivrez_agent.proofs.fetching.fetch_from.Goals as goal
use Rattle.lilivrez_agent.proofs.fetching.fetch_from.Goals.{in-Some-InImage+else-size-memory, in-Some-InWork+else-size-memory-2, in-None}

pub returns-then-size-eq0 : goal.returns-then-size-eq0
returns-then-size-eq0 c =
    let r = nothing_lent _ _ _ c.args.memory.allowed c.if-size-eq0.true in
    record { number = r.0; values = r.1 }

pub overflow_sub-memory : goal.overflow_sub-memory
overflow_sub-memory c = omega (arith, image_index _ _ (rw c.in-Some-InImage.field-0-is at c.in-Some-InImage.ensures))

pub returns-then-size-memory : goal.returns-then-size-memory
returns-then-size-memory c =
    let r = image_lent _ _ _ c.args.memory.allowed (omega (arith, c.if-size-eq0.false)) (rw c.in-Some-InImage.field-0-is at c.in-Some-InImage.ensures) (omega arith) in
    record { number = r.0; values = r.1 }

pub overflow_sub-memory-in-Some-InWork : goal.overflow_sub-memory-in-Some-InWork
overflow_sub-memory-in-Some-InWork c = omega (arith, work_index _ _ (rw c.in-Some-InWork.field-0-is at c.in-Some-InWork.ensures))

pub returns-then-size-memory-2 : goal.returns-then-size-memory-2
returns-then-size-memory-2 c =
    let r = work_lent _ _ _ c.args.memory.allowed (omega (arith, c.if-size-eq0.false)) (rw c.in-Some-InWork.field-0-is at c.in-Some-InWork.ensures) (omega arith) in
    record { number = r.0; values = r.1 }

pub returns : goal.returns
returns c =
    let r = none_lent _ _ _ c.args.memory.allowed (elim c.match-holder.branch [
      | in-Some-InImage+else-size-memory w ↦ omega (arith, image_rest _ _ (rw w.in-Some-InImage.field-0-is at w.in-Some-InImage.ensures), w.if-size-memory.false)
      | in-Some-InWork+else-size-memory-2 w ↦ omega (arith, work_rest _ _ (rw w.in-Some-InWork.field-0-is at w.in-Some-InWork.ensures), w.if-size-memory-2.false)
      | in-None w ↦ omega (arith, nowhere_rest _ _ w.in-None.ensures, c.if-size-eq0.false)
    ]) in
    record { number = c.from.ensures ∙ c.number.ensures ∙ r.0; values = r.1 }
