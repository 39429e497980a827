use native.Mathlib.Omega.{arith}
use Rattle.recording.proofs.Making.{range_none, range_long, range_ends, range_fits}
use Rattle.recording.proofs.Appending.{made_as, made_none, made_refused}
use Rattle.recording.proofs.record_range.Goals as goal

pub returns-then-size-eq0 : goal.returns-then-size-eq0
returns-then-size-eq0 c = made_none (range_none _ _ _ _ c.if-size-eq0.true) c.requires

pub returns-then-size-gt-RECORD_MOST : goal.returns-then-size-gt-RECORD_MOST
returns-then-size-gt-RECORD_MOST c = made_refused (range_long _ _ _ _ c.if-size-eq0.false (omega arith)) c.requires

pub returns-then-rest-size : goal.returns-then-rest-size
returns-then-rest-size c =
    made_refused (range_ends _ _ _ _ c.if-size-eq0.false c.rest-rest.ensures c.args.memory.allowed (omega arith) (omega arith)) c.requires

pub returns : goal.returns
returns c =
    made_as (range_fits _ _ _ _ c.if-size-eq0.false c.rest-rest.ensures c.args.memory.allowed (omega arith) (omega arith)) c.record_bytes.ensures
