use Rattle.std.proofs.Common.{arith}
use Rattle.memory.proofs.Fetching.{image_index, work_index, rest_in_image, rest_in_work, rest_nowhere}
use Rattle.memory.proofs.Memory.rest.Goals as goal

pub slice_bounds-result-count : goal.slice_bounds-result-count
slice_bounds-result-count c = omega (arith, image_index _ _ (rw c.in-Some-InImage.field-0-is at c.in-Some-InImage.ensures))

pub slice_bounds-result-start : goal.slice_bounds-result-start
slice_bounds-result-start c = omega (arith, image_index _ _ (rw c.in-Some-InImage.field-0-is at c.in-Some-InImage.ensures))

pub slice_bounds-result-count-in-Some-InWork : goal.slice_bounds-result-count-in-Some-InWork
slice_bounds-result-count-in-Some-InWork c = omega (arith, work_index _ _ (rw c.in-Some-InWork.field-0-is at c.in-Some-InWork.ensures))

pub slice_bounds-result-start-in-Some-InWork : goal.slice_bounds-result-start-in-Some-InWork
slice_bounds-result-start-in-Some-InWork c = omega (arith, work_index _ _ (rw c.in-Some-InWork.field-0-is at c.in-Some-InWork.ensures))

pub returns-in-Some-InImage : goal.returns-in-Some-InImage
returns-in-Some-InImage c = rest_in_image _ _ (rw c.in-Some-InImage.field-0-is at c.in-Some-InImage.ensures)

pub returns-in-Some-InWork : goal.returns-in-Some-InWork
returns-in-Some-InWork c = rest_in_work _ _ (rw c.in-Some-InWork.field-0-is at c.in-Some-InWork.ensures)

pub returns-in-None : goal.returns-in-None
returns-in-None c = rest_nowhere _ _ c.in-None.ensures
