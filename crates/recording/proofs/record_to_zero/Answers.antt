use mathlib.Core.Path.{sym}
use native.Mathlib.Omega.{arith}
use lib.Seq.{length-take-le}
use Rattle.recording.proofs.Making.{zero_none, zero_found, zero_reached, zero_long, zero_ended, found_in, reached_in}
use Rattle.recording.proofs.Appending.{made_as, made_none, made_refused}
use Rattle.recording.proofs.record_to_zero.Goals as goal

pub returns-then-size-eq0 : goal.returns-then-size-eq0
returns-then-size-eq0 c = made_none (zero_none _ _ _ _ c.if-size-eq0.true) c.requires

pub slice_bounds-record_bytes-end : goal.slice_bounds-record_bytes-end
slice_bounds-record_bytes-end c = sym (length-take-le _ c.rest-rest.result.now (found_in c.args.size c.rest-rest.result.now c.find_zero.result c.min-limit.ensures c.find_zero.ensures c.in-Found.is).0)

pub record_bytes-requires-clause-size : goal.record_bytes-requires-clause-size
record_bytes-requires-clause-size c =
    let q = found_in c.args.size c.rest-rest.result.now c.find_zero.result c.min-limit.ensures c.find_zero.ensures c.in-Found.is in
    omega (arith, length-take-le _ c.rest-rest.result.now q.0, q.1)

pub slice_bounds-record_bytes-end-then-size-le-RECORD_MOST : goal.slice_bounds-record_bytes-end-then-size-le-RECORD_MOST
slice_bounds-record_bytes-end-then-size-le-RECORD_MOST c = sym (length-take-le _ c.rest-rest.result.now (reached_in c.args.size c.rest-rest.result.now c.find_zero.result c.min-limit.ensures c.find_zero.ensures c.in-Reached.is).0)

pub record_bytes-requires-then-size-le-RECORD_MOST-clause-size : goal.record_bytes-requires-then-size-le-RECORD_MOST-clause-size
record_bytes-requires-then-size-le-RECORD_MOST-clause-size c =
    let q = reached_in c.args.size c.rest-rest.result.now c.find_zero.result c.min-limit.ensures c.find_zero.ensures c.in-Reached.is in
    omega (arith, length-take-le _ c.rest-rest.result.now q.0, q.1)

pub returns-then-size-le-RECORD_MOST : goal.returns-then-size-le-RECORD_MOST
returns-then-size-le-RECORD_MOST c =
    made_as
    (zero_reached _ _ _ _ c.if-size-eq0.false c.rest-rest.ensures c.find_zero.result c.min-limit.ensures c.find_zero.ensures c.in-Reached.is (omega arith))
    c.record_bytes-then-size-le-RECORD_MOST.ensures

pub returns-in-Found : goal.returns-in-Found
returns-in-Found c =
    made_as (zero_found _ _ _ _ c.if-size-eq0.false c.rest-rest.ensures c.find_zero.result c.min-limit.ensures c.find_zero.ensures c.in-Found.is) c.record_bytes.ensures

pub returns-else-size-le-RECORD_MOST : goal.returns-else-size-le-RECORD_MOST
returns-else-size-le-RECORD_MOST c =
    made_refused
    (zero_long _ _ _ _ c.if-size-eq0.false c.rest-rest.ensures c.find_zero.result c.min-limit.ensures c.find_zero.ensures c.in-Reached.is (omega arith)) c.requires

pub returns-in-Ended : goal.returns-in-Ended
returns-in-Ended c =
    made_refused (zero_ended _ _ _ _ c.if-size-eq0.false c.rest-rest.ensures c.find_zero.result c.min-limit.ensures c.find_zero.ensures c.in-Ended.is) c.requires
