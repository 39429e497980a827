use mathlib.Core.Path.{ap, ◌∙◌}
use native.Mathlib.Omega.{arith}
use Rattle.std.proofs.lemmas.Result.{err_from_is_err_and}
use lib.ListN.{drop, length-take}
use Rattle.reader.specs.Read.{refused_count, count_in}
use Rattle.reader.proofs.Locating.{located_inside}
use Rattle.reader.proofs.Framing.{framed_broken, count_refused, count_frame, lent_length}
use Rattle.reader.proofs.Splitting.{split_broken, counts_records}
use Rattle.reader.proofs.count_records.Goals as goal

pub returns-in_err-frame : goal.returns-in_err-frame
returns-in_err-frame c = let p = err_from_is_err_and c.from_residual.result c.from_residual.ensures.1 in rw (p.1, p.2) (count_refused _ _ _ c.in_err-frame.ensures)

pub records_of-requires : goal.records_of-requires
records_of-requires c = omega (arith, located_inside _ _ _ c.in_ok-frame.ensures)

pub divide-requires : goal.divide-requires
divide-requires c =
    let f = c.in_ok-frame.frame in
    rw c.records_of.ensures (omega (arith, located_inside _ _ _ c.in_ok-frame.ensures, length-take f.length (drop f.start c.args.buffer.now)))

pub returns-in_err-split : goal.returns-in_err-split
returns-in_err-split c =
    let w = split_broken _ _ _ _ (rw c.records_of.ensures at c.in_err-split.ensures) in
    let p = err_from_is_err_and c.from_residual-in_err-split.result c.from_residual-in_err-split.ensures.1 in
    rw (p.1, p.2) (ap refused_count w.2 ∙ ap count_in (framed_broken _ w.1 _ _) ∙ count_frame _ _ _ c.in_ok-frame.ensures)

pub returns : goal.returns
returns c =
    let f = c.in_ok-frame.ensures in
    counts_records _ _ _ _ (rw c.records_of.ensures at c.in_ok-split.ensures) _ _ (lent_length _ _ _ f) ∙ count_frame _ _ _ f
