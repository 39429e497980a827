use Rattle.std.proofs.Common.{rules}
use Rattle.text_buffer.proofs.Promises.{one, more, appends_number}
use Rattle.text_buffer.specs.Text.{bytes_of}
use Rattle.text_buffer.specs.Decimal.{decimal}
use Rattle.phrases.specs.Numbers.{value_text}
use Rattle.run_lines.specs.Outcome.{change_by}
use Rattle.run_lines.proofs.append_change_by.Goals as goal

pub returns : goal.returns
unfolding change_by
returns c =
    let a = c.args in
    let named = more (one (bytes_of "  variable ") c.append.ensures.text) (decimal a.number) (appends_number a.number c.append_number.ensures.text) in
    let old = more (more named (bytes_of ": ") c.append-2.ensures.text) (value_text a.before) c.append_value.ensures.text in
    let new = more (more old a.between.now c.append-3.ensures.text) (value_text a.after) c.append_value-2.ensures.text in
    record { count = c.append-4.ensures.count; text = (more new (bytes_of "\n") c.append-4.ensures.text).text; lent = search rules }
