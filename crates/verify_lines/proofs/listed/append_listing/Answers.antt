use native.Mathlib.Omega.{arith}
use mathlib.Core.Path.{◌≡◌, refl, sym, ◌∙◌}
use Prim.Native.Nat.{◌+◌}
use lib.ListN.{get_or}
use Rattle.std.specs.Prelude.{is_some}
use Rattle.std.specs.Option.{option_copied}
use Rattle.isa.specs.Decode.{next}
use Rattle.text_buffer.proofs.Promises.{appends_same, appends_length, going_start, going_part, going_end}
use Rattle.verify_lines.specs.Listed.{cells_of, row_text}
use Rattle.verify_lines.proofs.Rows.{listed, rows_from, rows_all, rows_next, rows_end}
use Rattle.verify_lines.proofs.listed.append_listing.Goals as goal

pub loop-text-init : goal.loop-text-init
loop-text-init c = (going_start _ _ _ c.requires.at.0, c.requires.at, refl)

pub cell_at-requires-clause-offset : goal.cell_at-requires-clause-offset
cell_at-requires-clause-offset c = (listed c.args.code.now c.loop-text.k (sym c.is_row.ensures ∙ c.loop-text-test.true)).low

pub append_row-requires : goal.append_row-requires
append_row-requires c = (listed c.args.code.now c.loop-text.k (sym c.is_row.ensures ∙ c.loop-text-test.true)).whole

pub bounds-code-k : goal.bounds-code-k
bounds-code-k c = (listed c.args.code.now c.loop-text.k (sym c.is_row.ensures ∙ c.loop-text-test.true)).inside

pub overflow_add-k-in-loop-text : goal.overflow_add-k-in-loop-text
overflow_add-k-in-loop-text c = omega (arith, (listed c.args.code.now c.loop-text.k (sym c.is_row.ensures ∙ c.loop-text-test.true)).low)

pub loop-text-smaller : goal.loop-text-smaller
loop-text-smaller c = omega (arith, (listed c.args.code.now c.loop-text.k (sym c.is_row.ensures ∙ c.loop-text-test.true)).inside)

pub loop-text-preserved : goal.loop-text-preserved
loop-text-preserved c =
    let e = c.args.code.now in
    let hs = cells_of (option_copied c.args.heights) in
    let a = is_some c.args.heights in
    let k = c.loop-text.k in
    let p = c.append_row in
    let q = c.cell_at.ensures in
    let z : k + (1 + c.from.result) ≡ next e k = omega (arith, c.from.ensures, c.look_up.ensures.operands_is) in
    rw z (
      going_part c.loop-text.invariant.0 (row_text e a (get_or hs k 0) k) (rows_from e hs a (next e k))
          (rows_next e hs a k (sym c.is_row.ensures ∙ c.loop-text-test.true)) _ _ (appends_length p.ensures.text) (rw (q.0, q.1) at p.ensures.text),
      p.ensures.count,
      p.ensures.lent ∙ c.loop-text.invariant.2,
    )

pub returns : goal.returns
returns c =
    let e = c.args.code.now in
    let g = going_end c.loop-text.invariant.0 (rows_end e _ _ _ (sym c.is_row.ensures ∙ c.loop-text-test.false)) in
    record { count = c.loop-text.invariant.1; text = appends_same _ _ (rows_all e (cells_of (option_copied c.args.heights)) (is_some c.args.heights)) g; lent = c.loop-text.invariant.2 }
