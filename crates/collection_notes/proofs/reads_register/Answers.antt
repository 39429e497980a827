use Rattle.std.proofs.Common.{of_calls}
use Rattle.collection_notes.specs.Collection.{reads_at, reads_register}
use Rattle.collection_notes.proofs.reads_register.Goals as goal

pub returns : goal.returns
unfolding reads_register
returns c = c.any_instruction.ensures (reads_at c.args.code.now c.args.register) (λ k is h q. search of_calls)
