use Rattle.std.proofs.Common.{rules}
use mathlib.Core.List.{[], ◌∷◌}
use Rattle.text_buffer.specs.Decimal.{decimal}
use Rattle.instruction_text.specs.Text.{aligned, named_at}
use Rattle.text_buffer.proofs.Promises.{appends_same, one, more}
use Rattle.instruction_text.proofs.Texting.{text_named, text_length}
use Rattle.instruction_text.proofs.writing.append_instruction.Goals as goal

pub returns : goal.returns
returns c =
    let e = c.args.code.now in
    let k = c.args.at in record {
      text = appends_same _ _ (text_named e k)
          (more (more (more (one (aligned (decimal k)) c.append_offset.ensures.text) (32 ∷ 32 ∷ []) c.append.ensures.text)
          (named_at e k) c.append_named.ensures.text) (10 ∷ []) c.append-2.ensures.text).text;
      short = text_length e (λ j. (c.type_inv.code j).fits) k c.ranges.at.fits;
      lent = search rules;
    }
