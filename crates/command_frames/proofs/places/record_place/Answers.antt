use Rattle.std.proofs.Common.{◌≡◌, ◌+◌, ◌-◌, arith}
use Rattle.command_frames.proofs.Ends.{rest_begins, rest_cut, rest_ends, rest_again}
use Rattle.command_frames.proofs.places.record_place.Goals as goal

pub loop-passed-init : goal.loop-passed-init
loop-passed-init c = let all : c.args.index - 0 ≡ c.args.index = omega arith in rw all (rest_begins _ _ _ _)

pub returns-then-part-place : goal.returns-then-part-place
returns-then-part-place c = rest_cut c.loop-passed.invariant (omega arith) (omega arith)

pub loop-passed-preserved : goal.loop-passed-preserved
loop-passed-preserved c =
    let i = c.loop-passed.passed in
    let less : c.args.index - (i + 1) ≡ c.args.index - i - 1 = omega arith in
    rw less (rest_again c.loop-passed.invariant (omega arith) c.place_behind-place.ensures.1)

pub returns : goal.returns
returns c = rest_ends c.loop-passed.invariant (omega arith)
