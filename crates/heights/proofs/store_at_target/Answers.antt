use native.Mathlib.Omega.{arith}
use mathlib.Core.Path.{sym, ◌∙◌}
use Rattle.isa.specs.Walk.{target}
use Rattle.heights.proofs.Storing.{jump_kind, target_jump, marked_set, no_mark_set}
use Rattle.heights.proofs.store_at_target.Goals as goal

pub bounds-heights-target : goal.bounds-heights-target
bounds-heights-target c =
    let x = jump_kind c.args.e.now c.args.at c.requires.row (sym c.is_jump.ensures ∙ c.if-is_jump.true) in
    omega (arith, c.requires.room.cell _ (target x.0 x.1 c.operand_at-target.ensures.0))

pub returns-then-is_jump : goal.returns-then-is_jump
returns-then-is_jump c =
    let a = c.args in
    let p = sym c.is_jump.ensures ∙ c.if-is_jump.true in
    let x = jump_kind a.e.now a.at c.requires.row p in
    let t = c.operand_at-target.result in
    let i = c.requires.room.cell _ (target x.0 x.1 c.operand_at-target.ensures.0) in
    record {
      stored = rw (marked_set a.heights.now t a.after)
          (target_jump a.e.now a.at c.requires.row a.after _ t p c.operand_at-target.ensures.0 (omega (arith, c.requires.room.long, i)));
      no_mark = no_mark_set a.heights.now c.requires.no_mark.1 t a.after (omega (arith, c.told-heights, i)) c.requires.no_mark.0;
    }
