use Prim.Native.Nat.{◌+◌}
use native.Mathlib.Omega.{arith}
use mathlib.Core.Path.{refl, sym, ◌∙◌}
use Rattle.isa.specs.Walk.{onward}
use Rattle.heights.proofs.Storing.{on_kind, next_on, marked_set, no_mark_set}
use Rattle.heights.proofs.store_at_next.Goals as goal

pub bounds-heights-next : goal.bounds-heights-next
bounds-heights-next c =
    let x = on_kind c.args.e.now c.args.at c.requires.row (sym c.goes_on.ensures ∙ c.if-goes_on.true) in
    omega (arith, c.requires.room.cell _ (onward x.0 x.1 refl))

pub returns-then-goes_on : goal.returns-then-goes_on
returns-then-goes_on c =
    let a = c.args in
    let p = sym c.goes_on.ensures ∙ c.if-goes_on.true in
    let x = on_kind a.e.now a.at c.requires.row p in
    let t = a.at + 1 + c.from.result in
    let i = c.requires.room.cell _ (onward x.0 x.1 refl) in
    record {
      stored = rw (marked_set a.heights.now t a.after)
          (next_on a.e.now a.at c.requires.row a.after _ t p (omega arith) (omega (arith, c.requires.room.long, i)));
      no_mark = no_mark_set a.heights.now c.requires.no_mark.1 t a.after (omega (arith, c.told-heights, i)) c.requires.no_mark.0;
    }
