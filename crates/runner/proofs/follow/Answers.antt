use native.Mathlib.Omega.{arith}
use Rattle.runner.proofs.Leaving.{ended, refused, spent}
use Rattle.runner.proofs.follow.Goals as goal

pub overflow_sub-place : goal.overflow_sub-place
overflow_sub-place c = let e = c.in-Ended.ensures 0 in omega (arith, e.put)

pub close_frame-requires : goal.close_frame-requires
close_frame-requires c =
    let e = c.in-Ended.ensures 0 in
    record { room = omega (arith, e.room, c.go.auto.buffer); size = omega (arith, e.room, c.requires.2) }

pub value_of-requires : goal.value_of-requires
value_of-requires c = (c.in-Ended.ensures 0).low

pub overflow_add-result : goal.overflow_add-result
overflow_add-result c = let e = c.in-Ended.ensures 0 in record { fits = omega (arith, e.room, c.requires.2) }

pub returns-in-On : goal.returns-in-On
returns-in-On c = spent (c.in-On.ensures c.args.tracepoint) c.after.ensures

pub returns-in-Refused : goal.returns-in-Refused
returns-in-Refused c = refused (c.in-Refused.ensures c.args.tracepoint)

pub returns-in-Ended : goal.returns-in-Ended
returns-in-Ended c = ended (c.in-Ended.ensures c.args.tracepoint) c.close_frame.ensures c.value_of.ensures
