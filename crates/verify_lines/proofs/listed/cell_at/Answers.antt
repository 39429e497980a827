use native.Mathlib.Omega.{arith}
use mathlib.Core.Path.{refl, sym}
use Rattle.std.proofs.Common.{None}
use Rattle.std.proofs.lemmas.List.{get_or-map}
use Rattle.heights.specs.Arrivals.{height_or_mark}
use Rattle.verify_lines.proofs.listed.cell_at.Goals as goal

pub returns : goal.returns
returns c =
    let hs = c.in_ok-heights.field-0.now in
    let q = rw c.in_ok-heights.was at c.requires.cells in
    rw c.in_ok-heights.was (refl, sym (get_or-map height_or_mark hs c.args.offset None 0 (omega (arith, q.0, c.requires.offset))))
