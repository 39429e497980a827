use Rattle.std.proofs.Common.{refl, ◌∙◌}
use Rattle.std.proofs.Common.{[], ◌+◌, ◌-◌, drop, arith}
use Rattle.text_buffer.proofs.Promises.{appends_length, appends_then, going_start, going_part, going_end}
use Rattle.frame_lines.specs.Dump.{cell, column}
use Rattle.frame_lines.proofs.Dumping.{cells_part, cells_end}
use Rattle.frame_lines.proofs.dump.append_column.Goals as goal

pub loop-i-init : goal.loop-i-init
loop-i-init c = record { going = going_start _ _ _ c.append.ensures.count.0; lent = refl }

pub loop-i-preserved : goal.loop-i-preserved
loop-i-preserved c =
    let a = c.append_cell in
    let l = c.args.bytes.now in
    let i = c.loop-i.i in
    record {
      going = going_part c.loop-i.invariant.going (cell (drop i l)) (column (16 - (i + 1)) (drop (i + 1) l)) (cells_part l i (omega arith)) _ _
          (appends_length a.ensures.text) a.ensures.text;
      lent = a.ensures.lent ∙ c.loop-i.invariant.lent;
    }

pub returns-clause-text : goal.returns-clause-text
returns-clause-text c = appends_then [] _ c.append.ensures.text (going_end c.loop-i.invariant.going (cells_end _ _ (omega arith)))

pub returns-clause-lent : goal.returns-clause-lent
returns-clause-lent c = c.loop-i.invariant.lent ∙ c.append.ensures.lent
