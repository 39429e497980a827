use Rattle.std.proofs.Common.{arith}
use Rattle.encoding.proofs.Promises.{part_lent}
use Rattle.reader.proofs.Splitting.{left_all, left_broken, left_fits, left_here, left_other, left_inside, left_some, left_none}
use Rattle.reader.proofs.divide.Goals as goal
use Rattle.reader.proofs.divide.Goals.{then-count-wanted, else-count-wanted}

pub loop-rest-init : goal.loop-rest-init
loop-rest-init c = record { rest = left_all _ _; noted = omega arith }

pub returns-in_default : goal.returns-in_default
returns-in_default c = rw (left_broken c.loop-rest.invariant.rest (omega arith) c.in_default.ensures) c.at.ensures

pub slice_bounds-rest-count : goal.slice_bounds-rest-count
slice_bounds-rest-count c = left_fits c.loop-rest.invariant.rest (omega arith) c.in-Some.ensures

pub slice_bounds-rest-start : goal.slice_bounds-rest-start
slice_bounds-rest-start c = left_fits c.loop-rest.invariant.rest (omega arith) c.in-Some.ensures

pub loop-rest-preserved : goal.loop-rest-preserved
loop-rest-preserved c =
    let v = c.loop-rest.invariant in
    elim c.if-count-wanted.branch [
      | then-count-wanted p ↦ record {
        rest = rw p.left-is (left_here v.rest (omega arith) c.in-Some.ensures _ (part_lent c.loop-rest.rest.now c.in-Some.size) p.if-count-wanted.true);
        noted = rw p.left-is (left_inside v.rest);
      }
      | else-count-wanted p ↦ record {
        rest = rw p.left-is (left_other v.rest (omega arith) c.in-Some.ensures _ (part_lent c.loop-rest.rest.now c.in-Some.size) p.if-count-wanted.false);
        noted = rw p.left-is v.noted;
      }
    ]

pub returns-then-wanted-count : goal.returns-then-wanted-count
returns-then-wanted-count c = left_some c.loop-rest.invariant.rest (omega arith) c.args.start c.if-wanted-count.true

pub returns : goal.returns
returns c = left_none c.loop-rest.invariant.rest (omega arith) c.args.start c.if-wanted-count.false
