use mathlib.Core.Path.{refl}
use Rattle.text_buffer.proofs.Promises.{appends_same, one, more, appends_number}
use Rattle.text_buffer.specs.Text.{bytes_of}
use Rattle.text_buffer.specs.Decimal.{decimal}
use Rattle.verify_lines.proofs.Answering.{height_none, height_some}
use Rattle.verify_lines.proofs.verdict_line.append_height.Goals as goal
use Rattle.verify_lines.proofs.verdict_line.append_height.Goals.{in_default-via-in-Some+else-height, in_default-via-in_default}

pub returns-in-Some-clause-text : goal.returns-in-Some-clause-text
returns-in-Some-clause-text c =
    let h = c.in-Some.height in
    rw c.in-Some.is (appends_same _ _ (height_some h c.if-height.true)
    (more (more (one (bytes_of "# height ") c.append.ensures.text) (decimal h) (appends_number h (rw c.from.ensures at c.append_number.ensures.text)))
    (bytes_of "\n") c.append-in-Some.ensures.text).text)

pub returns-in_default-clause-text : goal.returns-in_default-clause-text
returns-in_default-clause-text c =
    elim c.in_default.branch [
      | in_default-via-in-Some+else-height w ↦ rw w.in-Some.is (appends_same _ _ (height_none w.in-Some.height w.if-height.false) c.append-in_default.ensures.text)
      | in_default-via-in_default w ↦ rw w.in_default.is (appends_same _ _ (height_none 255 refl) c.append-in_default.ensures.text)
    ]
