use mathlib.Core.Path.{◌∙◌}
use native.Mathlib.Omega.{arith}
use Rattle.std.proofs.lemmas.Result.{err_from_is_err_and}
use lib.ListN.{drop, length-take}
use Rattle.reader.proofs.Locating.{located_inside}
use Rattle.reader.proofs.Framing.{read_refused, read_frame}
use Rattle.reader.proofs.read.Goals as goal

pub returns-in_err-frame : goal.returns-in_err-frame
returns-in_err-frame c = let p = err_from_is_err_and c.from_residual.result c.from_residual.ensures.1 in rw (p.1, p.2) (read_refused _ _ _ _ c.in_err-frame.ensures)

pub records_of-requires : goal.records_of-requires
records_of-requires c = omega (arith, located_inside _ _ _ c.in_ok-frame.ensures)

pub read_in-requires : goal.read_in-requires
read_in-requires c =
    let f = c.in_ok-frame.frame in
    rw c.records_of.ensures (omega (arith, located_inside _ _ _ c.in_ok-frame.ensures, length-take f.length (drop f.start c.args.buffer.now)))

pub returns : goal.returns
returns c = (rw c.records_of.ensures at c.read_in.ensures) ∙ read_frame _ _ _ c.in_ok-frame.ensures _
