use Rattle.std.proofs.Common.{rules}
use Rattle.text_buffer.proofs.Promises.{one, more}
use Rattle.text_buffer.specs.Text.{bytes_of}
use Rattle.phrases.specs.Numbers.{hex_text}
use Rattle.collection_notes.specs.Notes.{scope_text}
use Rattle.collection_notes.proofs.append_scope.Goals as goal

pub returns : goal.returns
unfolding scope_text
returns c = record { count = c.append-2.ensures.count; text = (more (more (one (bytes_of "Scope: 0x") c.append.ensures.text) (hex_text c.args.address) c.append_address.ensures.text) (bytes_of "\n") c.append-2.ensures.text).text; lent = search rules }
