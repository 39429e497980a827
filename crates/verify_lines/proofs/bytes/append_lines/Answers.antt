use Prim.Native.Nat.{ℕ, min}
use mathlib.Core.Path.{ap, ◌∙◌}
use lib.ListN.{length}
use Rattle.std.specs.Slice.Iter.{chunks_rest}
use Rattle.text_buffer.proofs.Promises.{appends_length, going_part, going_end}
use Rattle.verify_lines.specs.Bytes.{bytes_line, bytes_text}
use Rattle.verify_lines.proofs.Lines.{bytes_part, bytes_end}
use Rattle.verify_lines.proofs.bytes.append_lines.Goals as goal

pub loop-line-preserved : goal.loop-line-preserved
loop-line-preserved c =
    let s = c.in-Some.ensures.steps in
    let g = c.loop-line.invariant in
    let l = chunks_rest c.loop-line.line-iterator in
    let p = c.append_line in (
      going_part g.0 (bytes_line c.in-Some.line.now) (bytes_text (chunks_rest c.next.new.self))
          (bytes_part l c.in-Some.line.now (chunks_rest c.next.new.self) s.1.0 (s.1.1 ∙ ap (λ (k : ℕ). min k (length l)) g.2) s.1.2) _ _ (appends_length p.ensures.text) p.ensures.text,
      p.ensures.count,
      s.0 ∙ g.2,
      p.ensures.lent ∙ g.3,
    )

pub returns-clause-text : goal.returns-clause-text
returns-clause-text c = going_end c.loop-line.invariant.0 (bytes_end _ c.in-None.ensures.steps.1.0)

pub returns-clause-lent : goal.returns-clause-lent
returns-clause-lent c = c.loop-line.invariant.3
