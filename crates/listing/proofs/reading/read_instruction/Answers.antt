use mathlib.Core.Path.{sym, ◌∙◌}
use Rattle.encoding.proofs.Promises.{written_nothing}
use Rattle.listing.specs.Line.{nothing}
use Rattle.listing.proofs.Lining.{left_by}
use Rattle.listing.proofs.reading.read_instruction.Goals as goal

pub returns-in-Ok-None-clause-bytes : goal.returns-in-Ok-None-clause-bytes
returns-in-Ok-None-clause-bytes c = let t = c.args.code.now in let o = t.bytes.now in sym (written_nothing o t.end) ∙ left_by nothing _ t.end o (rw c.in-Ok-None.field-0-is at c.in-Ok-None.ensures)
