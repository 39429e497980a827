use Rattle.std.proofs.Common.{refl, sym, ap, ◌∙◌, arith, rules}
use Rattle.text_buffer.proofs.Promises.{appends_same}
use Rattle.reader.proofs.Promises.{memory_step}
use Rattle.tracefile.specs.Frames.{record_bytes}
use Rattle.tracefile.proofs.Filing.{next_variable, bytes_part}
use Rattle.tracefile.proofs.body.append_record.Goals as goal

pub overflow_add-place : goal.overflow_add-place
overflow_add-place c =
    let a = c.args in
    record { fits = omega (arith, memory_step a.buffer.now a.end a.place (sym (rw c.in-Memory.is at c.in-Ok.ensures))) }

pub slice_bounds-append_memory-end : goal.slice_bounds-append_memory-end
slice_bounds-append_memory-end c =
    let a = c.args in
    omega (arith, memory_step a.buffer.now a.end a.place (sym (rw c.in-Memory.is at c.in-Ok.ensures)))

pub returns-in-Err : goal.returns-in-Err
unfolding record_bytes
returns-in-Err c = record {
  count = c.append.ensures.count;
  text = appends_same _ _ (ap (record_bytes c.args.buffer.now) c.in-Err.ensures) c.append.ensures.text;
  lent = search rules;
}

pub returns-in-Variable : goal.returns-in-Variable
unfolding record_bytes
returns-in-Variable c =
    let v = c.in-Variable in
    record {
      count = c.append_variable.ensures.count;
      text = appends_same _ _ (next_variable v.value v.number _ (search rules) refl
          ∙ ap (record_bytes c.args.buffer.now) (rw v.is at c.in-Ok.ensures)) c.append_variable.ensures.text;
      lent = search rules;
    }

pub returns-in-Memory : goal.returns-in-Memory
unfolding record_bytes
returns-in-Memory c =
    let l = c.args.buffer.now in
    let m = c.in-Memory in
    record {
      count = c.append_memory.ensures.count;
      text = appends_same _ _ (bytes_part l m.address m.length m.place ∙ ap (record_bytes l) (rw m.is at c.in-Ok.ensures)) c.append_memory.ensures.text;
      lent = search rules;
    }
