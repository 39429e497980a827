use Rattle.std.proofs.Common.{rules}
use Rattle.text_buffer.proofs.Promises.{one, more, appends_number}
use Rattle.text_buffer.specs.Text.{bytes_of}
use Rattle.text_buffer.specs.Decimal.{decimal}
use Rattle.collection_notes.specs.Notes.{register_note}
use Rattle.collection_notes.proofs.append_register.Goals as goal

pub returns : goal.returns
unfolding register_note
returns c = let r = c.args.register in record { count = c.append-3.ensures.count; text = (more (more (more (more (one (bytes_of "note: GDB wanted register ") c.append.ensures.text) (decimal r) (appends_number r c.append_number.ensures.text)) (bytes_of " collected; it is not: reg ") c.append-2.ensures.text) (decimal r) (appends_number r c.append_number-2.ensures.text)) (bytes_of ", setv N, tracev N would collect it\n") c.append-3.ensures.text).text; lent = search rules }
