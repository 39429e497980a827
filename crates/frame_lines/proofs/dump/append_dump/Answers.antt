use Rattle.std.proofs.Common.{rules}
use Rattle.std.proofs.Common.{[], refl, sym, ap, ◌∙◌, arith}
use Rattle.text_buffer.proofs.Promises.{appends_same}
use Rattle.reader.specs.NextRecord.{RecordStep}
use Rattle.reader.proofs.Promises.{memory_step}
use Rattle.frame_lines.specs.Dump.{dump_text}
use Rattle.frame_lines.proofs.Dumping.{dump_past, dump_some}
use Rattle.frame_lines.proofs.dump.append_dump.Goals as goal

pub returns-then-length-offset : goal.returns-then-length-offset
returns-then-length-offset c =
    let a = c.args in
    let m = c.in-Memory in
    let same = ap (λ (x : RecordStep). dump_text a.buffer.now x a.offset) (rw m.is at c.in-Ok.ensures) in
    record {
      count = c.append-then-length-offset.ensures.count;
      text = appends_same [] _ (dump_past a.buffer.now m.address m.length m.place c.in-Ok.found.next a.offset c.if-length-offset.true ∙ same)
          c.append-then-length-offset.ensures.text;
      lent = search rules;
    }

pub overflow_add-start : goal.overflow_add-start
overflow_add-start c =
    let a = c.args in
    record { fits = omega (arith, memory_step a.buffer.now a.end a.place (sym (rw c.in-Memory.is at c.in-Ok.ensures))) }

pub overflow_add-behind : goal.overflow_add-behind
overflow_add-behind c =
    let a = c.args in
    record { fits = omega (arith, c.min.ensures, memory_step a.buffer.now a.end a.place (sym (rw c.in-Memory.is at c.in-Ok.ensures))) }

pub slice_bounds-append_line-end : goal.slice_bounds-append_line-end
slice_bounds-append_line-end c =
    let a = c.args in
    omega (arith, c.min.ensures, memory_step a.buffer.now a.end a.place (sym (rw c.in-Memory.is at c.in-Ok.ensures)))

pub returns-in-Err : goal.returns-in-Err
unfolding dump_text
returns-in-Err c =
    let a = c.args in
    record {
      count = c.append.ensures.count;
      text = appends_same [] _ (ap (λ (x : RecordStep). dump_text a.buffer.now x a.offset) c.in-Err.ensures) c.append.ensures.text;
      lent = search rules;
    }

pub returns-in-Variable : goal.returns-in-Variable
unfolding dump_text
returns-in-Variable c =
    let a = c.args in
    record {
      count = c.append-in-Variable.ensures.count;
      text = appends_same [] _ (ap (λ (x : RecordStep). dump_text a.buffer.now x a.offset) (rw c.in-Variable.is at c.in-Ok.ensures))
          c.append-in-Variable.ensures.text;
      lent = search rules;
    }

pub returns-else-length-offset : goal.returns-else-length-offset
returns-else-length-offset c =
    let a = c.args in
    let m = c.in-Memory in
    let same = ap (λ (x : RecordStep). dump_text a.buffer.now x a.offset) (rw m.is at c.in-Ok.ensures) in
    record {
      count = c.append_line.ensures.count;
      text = appends_same _ _ (dump_some a.buffer.now m.place m.length a.offset c.min.result (omega (arith, c.if-length-offset.false)) (omega (arith, c.min.ensures))
          m.address c.in-Ok.found.next _ refl ∙ same) c.append_line.ensures.text;
      lent = search rules;
    }
