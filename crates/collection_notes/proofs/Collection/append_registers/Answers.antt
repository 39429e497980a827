use Rattle.text_buffer.proofs.Promises.{appends_same}
use Rattle.collection_notes.proofs.Noting.{notes_cut, then}
use Rattle.collection_notes.proofs.Collection.append_registers.Goals as goal

pub returns-clause-text : goal.returns-clause-text
returns-clause-text c =
    let s = c.args.self in
    appends_same _ _ (notes_cut s.mask.now s.code.now s.is_all _ c.min.ensures) (then c.append.ensures.text c.append_each.ensures.text)
