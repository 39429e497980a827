use Rattle.std.proofs.Common.{◌≡◌}
use Rattle.io.specs.Counts.{IsPrefixLen}
use Rattle.text_buffer.proofs.Promises.{Going}
use Rattle.collection_notes.proofs.Noting.{notes_at}
use Rattle.collection_notes.proofs.Collection.append_each.Given as goal

abbrev pub invariant-loop-register : goal.invariant-loop-register
invariant-loop-register l = record {
  going : Going l.initial.text.bytes.now l.initial.text.end (notes_at l.self.mask.now l.self.code.now l.self.is_all 0) (notes_at l.self.mask.now l.self.code.now l.self.is_all l.register) l.text.bytes.now l.text.end;
  count : IsPrefixLen l.text.end l.text.bytes.now;
  lent : l.text.bytes.ghost_name ≡ l.initial.text.bytes.ghost_name;
}
