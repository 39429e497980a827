use native.Mathlib.Omega.{arith}
use Rattle.std.proofs.Common.{rules}
use mathlib.Core.Path.{sym, ap, ◌∙◌}
use lib.ListN.{length}
use Rattle.text_buffer.proofs.Promises.{text_of, appends_length}
use Rattle.encoding.specs.Written.{written_at}
use Rattle.instruction_text.proofs.Texting.{writes_none, writes_no_room, writes_text}
use Rattle.instruction_text.proofs.writing.write_instruction.Goals as goal

pub returns-then-not-is_instruction : goal.returns-then-not-is_instruction
returns-then-not-is_instruction c = let e = writes_none c.args.code.now c.args.at c.args.out.now (sym c.is_instruction.ensures ∙ c.if-not-is_instruction.true) in record { answer = e.answer; text = e.text; within = tt }

pub returns-then-out-n : goal.returns-then-out-n
returns-then-out-n c =
    let a = c.args in
    let w = c.append_instruction.ensures in
    let t = rw c.new-text.ensures.1 at w.text in
    let long = appends_length t ∙ ap (λ b. length b.now) c.new-text.ensures.0 in
    let e = writes_no_room a.code.now a.at a.out.now (sym c.is_instruction.ensures ∙ c.if-not-is_instruction.false) _ _ (text_of t)
    (omega (arith, w.short, long)) c.if-out-n.true in
    record { answer = e.answer; text = e.text; within = search rules }

pub returns : goal.returns
returns c =
    let a = c.args in
    let w = c.append_instruction.ensures in
    let t = rw c.new-text.ensures.1 at w.text in
    let long = appends_length t ∙ ap (λ b. length b.now) c.new-text.ensures.0 in
    let e = writes_text a.code.now a.at a.out.now (sym c.is_instruction.ensures ∙ c.if-not-is_instruction.false) _ _ (text_of t)
    (omega (arith, w.short, long)) c.if-out-n.false _ (c.put_bytes.ensures ∙ ap (written_at a.out.now 0) c.written.ensures) in
    record { answer = e.answer; text = e.text; within = search rules }
