use native.Mathlib.Omega.{arith}
use mathlib.Core.Path.{refl, ap, ◌∙◌}
use mathlib.Core.List.{List}
use Prim.Native.Nat.{ℕ}
use lib.ListN.{length}
use Rattle.text_buffer.proofs.Promises.{appends_same}
use Rattle.heights.specs.Arrivals.{height_or_mark}
use Rattle.instruction_text.proofs.Promises.{text_some}
use Rattle.verify_lines.specs.Listed.{beside_text}
use Rattle.verify_lines.proofs.Rows.{row_accepted, row_refused, written_whole, written_text}
use Rattle.verify_lines.proofs.listed.append_row.Goals as goal

pub returns-in_default-clause-text : goal.returns-in_default-clause-text
returns-in_default-clause-text c =
    let e = c.args.code.now in
    let w = c.write_instruction in
    absurd (c.in_default.not-Ok _ (w.ensures.answer ∙ written_whole e (λ j. (c.type_inv.code j).fits) c.args.offset c.ranges.offset.fits c.requires _ refl))

pub append_beside-requires : goal.append_beside-requires
append_beside-requires c =
    let e = c.args.code.now in
    let w = c.write_instruction in
    let t = written_text e (λ j. (c.type_inv.code j).fits) c.args.offset c.ranges.offset.fits c.requires _ refl w.result _ w.ensures.answer w.ensures.text _ c.in-Ok.is in
    omega (arith, ap length t, text_some e c.args.offset)

pub returns-in-Some-clause-text : goal.returns-in-Some-clause-text
returns-in-Some-clause-text c =
    let e = c.args.code.now in
    let w = c.write_instruction in
    let h = height_or_mark c.in-Some.height in
    let t = written_text e (λ j. (c.type_inv.code j).fits) c.args.offset c.ranges.offset.fits c.requires _ refl w.result _ w.ensures.answer w.ensures.text _ c.in-Ok.is in
    rw c.in-Some.is (appends_same _ _ (ap (λ (l : List ℕ). beside_text l h) t ∙ row_accepted e h c.args.offset) c.append_beside.ensures.text)

pub returns-in-None-clause-text : goal.returns-in-None-clause-text
returns-in-None-clause-text c =
    let e = c.args.code.now in
    let w = c.write_instruction in
    let t = written_text e (λ j. (c.type_inv.code j).fits) c.args.offset c.ranges.offset.fits c.requires _ refl w.result _ w.ensures.answer w.ensures.text _ c.in-Ok.is in
    rw c.in-None.is (appends_same _ _ (t ∙ row_refused e 0 c.args.offset) c.append-in-None.ensures.text)
