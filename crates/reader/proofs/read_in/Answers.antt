use mathlib.Core.Path.{ap, ◌∙◌}
use native.Mathlib.Omega.{arith}
use Rattle.std.proofs.lemmas.Result.{err_from_is_err_and}
use lib.ListN.{length-drop}
use Rattle.encoding.proofs.Promises.{part_lent}
use Rattle.reader.specs.Read.{refused_read, record_in}
use Rattle.reader.proofs.Framing.{framed_broken}
use Rattle.reader.proofs.Splitting.{split_broken, none_read, one_read, read_told}
use Rattle.reader.proofs.read_in.Goals as goal

pub returns-in_err-split : goal.returns-in_err-split
returns-in_err-split c =
    let w = split_broken _ _ _ _ c.in_err-split.ensures in
    let p = err_from_is_err_and c.from_residual.result c.from_residual.ensures.1 in rw (p.1, p.2) (ap refused_read w.2 ∙ ap (record_in c.args.index) (framed_broken _ w.1 _ _))

pub returns-in_default : goal.returns-in_default
returns-in_default c = ap refused_read c.at.ensures ∙ none_read _ _ _ _ c.in_ok-split.ensures c.in_default.is _

pub slice_bounds-found_at-count : goal.slice_bounds-found_at-count
slice_bounds-found_at-count c = omega (arith, (one_read _ _ _ _ c.in_ok-split.ensures c.in-Some.is).inside)

pub slice_bounds-found_at-start : goal.slice_bounds-found_at-start
slice_bounds-found_at-start c = omega (arith, (one_read _ _ _ _ c.in_ok-split.ensures c.in-Some.is).inside)

pub overflow_add-frame : goal.overflow_add-frame
overflow_add-frame c = record { fits = omega (arith, c.requires, (one_read _ _ _ _ c.in_ok-split.ensures c.in-Some.is).inside) }

pub found_at-record-requires-clause-there : goal.found_at-record-requires-clause-there
found_at-record-requires-clause-there c =
    rw (part_lent c.args.bytes.now c.in-Some.offset) (one_read _ _ _ _ c.in_ok-split.ensures c.in-Some.is).some

pub found_at-record-requires-clause-within : goal.found_at-record-requires-clause-within
found_at-record-requires-clause-within c =
    let l = c.args.bytes.now in
    rw (part_lent l c.in-Some.offset)
    (omega (arith, c.requires, (one_read _ _ _ _ c.in_ok-split.ensures c.in-Some.is).inside, length-drop c.in-Some.offset l))

pub returns : goal.returns
returns c =
    read_told _ _ _ _ c.in_ok-split.ensures c.in-Some.is _ (rw (part_lent c.args.bytes.now c.in-Some.offset) at c.found_at-record.ensures) _
