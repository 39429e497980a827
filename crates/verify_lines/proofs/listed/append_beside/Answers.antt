use Rattle.std.proofs.Common.{rules}
use mathlib.Core.Path.{refl}
use Prim.Native.Nat.{◌-◌}
use lib.ListN.{length, take}
use Rattle.text_buffer.proofs.Promises.{appends_same, one, more}
use Rattle.heights.specs.Arrivals.{height_or_mark}
use Rattle.verify_lines.specs.Verdict.{height_text}
use Rattle.verify_lines.specs.Listed.{gap_text}
use Rattle.verify_lines.proofs.Rows.{beside_parts}
use Rattle.verify_lines.proofs.listed.append_beside.Goals as goal

pub returns : goal.returns
returns c =
    let a = c.args in
    let l = a.line.now in
    record {
      count = c.append_height.ensures.count;
      text = appends_same _ _ (beside_parts l (height_or_mark a.height) (length l - 1) refl)
          (more (more (one (take (length l - 1) l) c.append.ensures.text) (gap_text (length l - 1)) c.append_gap.ensures.text)
          (height_text (height_or_mark a.height)) c.append_height.ensures.text).text;
      lent = search rules;
    }
