use Rattle.std.proofs.Common.{rules}
use Rattle.text_buffer.proofs.Promises.{one, more}
use Rattle.text_buffer.specs.Text.{bytes_of}
use Rattle.phrases.specs.Numbers.{count_text}
use Rattle.run_lines.specs.Notes.{note_at, discarded_text}
use Rattle.run_lines.proofs.notes.append_discarded.Goals as goal

pub returns : goal.returns
unfolding discarded_text
returns c =
    let a = c.args in
    let counted = more (one (note_at a.line a.word.now) c.append_note_at.ensures.text) (count_text a.used (bytes_of "recorded byte")) c.append_count.ensures.text in
    record { count = c.append.ensures.count; text = (more counted (bytes_of " discarded\n") c.append.ensures.text).text; lent = search rules }
