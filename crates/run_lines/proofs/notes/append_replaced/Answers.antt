use Rattle.std.proofs.Common.{rules}
use Rattle.text_buffer.proofs.Promises.{one, more}
use Rattle.text_buffer.specs.Text.{bytes_of}
use Rattle.phrases.specs.Numbers.{count_text, hex_text}
use Rattle.run_lines.specs.Notes.{note_at, replaced_text}
use Rattle.run_lines.proofs.notes.append_replaced.Goals as goal

pub returns : goal.returns
unfolding replaced_text
returns c =
    let a = c.args in
    let counted = more (one (note_at a.line a.word.now) c.append_note_at.ensures.text) (count_text a.len (bytes_of "byte")) c.append_count.ensures.text in
    let placed = more (more counted (bytes_of " at ") c.append.ensures.text) (hex_text a.first) c.append_address.ensures.text in
    record { count = c.append-2.ensures.count; text = (more placed (bytes_of " replaced\n") c.append-2.ensures.text).text; lent = search rules }
