use Rattle.std.proofs.Common.{of_calls}
use lib.ListN.{get_or}
use Rattle.collection_notes.specs.Collection.{is_tracing, collects}
use Rattle.collection_notes.proofs.collects.Goals as goal

pub returns : goal.returns
unfolding collects
returns c = c.any_instruction.ensures (λ k. is_tracing (get_or c.args.code.now k 0)) (λ k is h q. search of_calls)
