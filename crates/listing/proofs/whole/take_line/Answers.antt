use mathlib.Core.Path.{refl, sym, ap, ◌∙◌}
use native.Mathlib.Omega.{arith}
use Rattle.encoding.proofs.Promises.{written_nothing}
use Rattle.listing.specs.Line.{ListingLine, nothing, read_answer, read_end, taken}
use Rattle.listing.specs.Meant.{meant}
use Rattle.listing.proofs.Lining.{left_by}
use Rattle.listing.proofs.Dividing.{meant_nothing, meant_line}
use Rattle.listing.proofs.whole.take_line.Goals as goal

pub returns-then-is_heading : goal.returns-then-is_heading
returns-then-is_heading c =
    let t = c.args.code.now in
    let o = t.bytes.now in
    let l = c.args.line.now in
    let m = meant_nothing t.end l _ c.is_heading.ensures c.if-is_heading.true in record {
      answer = ap (λ (x : ListingLine). taken (read_answer x t.end o)) m;
      end = omega (arith, ap (λ (x : ListingLine). read_end x t.end o) m);
      bytes = sym (written_nothing o t.end) ∙ left_by nothing (meant t.end l) t.end o m;
      within = λ h. h;
      lent = refl;
    }

pub returns : goal.returns
returns c =
    let t = c.args.code.now in
    let o = t.bytes.now in
    let l = c.args.line.now in
    let n = c.before_comment-n in
    let r = c.read_instruction.ensures in
    let m = meant_line t.end l _ c.is_heading.ensures c.if-is_heading.false n.result n.ensures.0 in record {
      answer = r.answer ∙ ap (λ (x : ListingLine). taken (read_answer x t.end o)) m;
      end = r.end ∙ ap (λ (x : ListingLine). read_end x t.end o) m;
      bytes = r.bytes ∙ left_by _ (meant t.end l) t.end o m;
      within = r.within;
      lent = r.lent;
    }
