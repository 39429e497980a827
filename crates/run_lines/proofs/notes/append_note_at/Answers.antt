use Rattle.std.proofs.Common.{rules}
use Rattle.text_buffer.proofs.Promises.{one, more, appends_number}
use Rattle.text_buffer.specs.Text.{bytes_of}
use Rattle.text_buffer.specs.Decimal.{decimal}
use Rattle.run_lines.specs.Notes.{note_at}
use Rattle.run_lines.proofs.notes.append_note_at.Goals as goal

pub returns : goal.returns
unfolding note_at
returns c =
    let a = c.args in
    let numbered = more (one (bytes_of "note: line ") c.append.ensures.text) (decimal a.line) (appends_number a.line c.append_number.ensures.text) in
    let named = more (more numbered (bytes_of ": ") c.append-2.ensures.text) a.word.now c.append-3.ensures.text in
    record { count = c.append-4.ensures.count; text = (more named (bytes_of ": ") c.append-4.ensures.text).text; lent = search rules }
