use native.Mathlib.Omega.{arith}
use Rattle.heights.proofs.Storing.{marked_at, stored_both, room_kept}
use Rattle.heights.proofs.Turning.{standing, filling_skip, filling_turn}
use Rattle.heights.proofs.step.Goals as goal

pub returns-in_default : goal.returns-in_default
returns-in_default c =
    let f = c.requires.filling in
    record { filling = filling_skip f c.requires.at (marked_at _ c.args.at _ c.told-heights (omega (arith, c.requires.at, f.acceptable.sized.short)) c.in_default.is); no_mark = c.requires.no_mark }

pub overflow_sub-after : goal.overflow_sub-after
overflow_sub-after c = omega (arith, (standing c.args.heights.now c.requires.filling c.requires.at c.requires.no_mark c.told-heights c.in-Some.is c.requires.row).cells)

pub overflow_add-after : goal.overflow_add-after
overflow_add-after c =
    let g = standing c.args.heights.now c.requires.filling c.requires.at c.requires.no_mark c.told-heights c.in-Some.is c.requires.row in
    record { fits = omega (arith, g.after, g.low) }

pub store_at_target-requires : goal.store_at_target-requires
store_at_target-requires c =
    let g = standing c.args.heights.now c.requires.filling c.requires.at c.requires.no_mark c.told-heights c.in-Some.is c.requires.row in
    record { row = c.requires.row; room = g.room; no_mark = (omega (arith, g.after, g.low), c.requires.no_mark) }

pub store_at_next-requires : goal.store_at_next-requires
store_at_next-requires c =
    let g = standing c.args.heights.now c.requires.filling c.requires.at c.requires.no_mark c.told-heights c.in-Some.is c.requires.row in
    record {
      row = c.requires.row;
      room = room_kept c.store_at_target.ensures.stored g.room;
      no_mark = (omega (arith, g.after, g.low), c.store_at_target.ensures.no_mark);
    }

pub returns : goal.returns
returns c =
    let g = standing c.args.heights.now c.requires.filling c.requires.at c.requires.no_mark c.told-heights c.in-Some.is c.requires.row in
    record {
      filling = filling_turn c.requires.filling c.requires.at g.reached
          (rw g.after at (stored_both c.store_at_target.ensures.stored c.store_at_next.ensures.stored));
      no_mark = c.store_at_next.ensures.no_mark;
    }
