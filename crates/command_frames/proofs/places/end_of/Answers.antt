use Rattle.std.proofs.Common.{◌≡◌, ◌+◌, ◌-◌, sym, ap, arith}
use Rattle.reader.specs.Located.{located}
use Rattle.command_frames.proofs.Ends.{stops_there, ends_there, goes_older}
use Rattle.command_frames.proofs.places.end_of.Goals as goal

pub loop-passed-init : goal.loop-passed-init
loop-passed-init c = let all : c.args.number - 0 ≡ c.args.number = omega arith in record { same = ap (located c.args.buffer.now c.args.used) all }

pub returns-in-Err : goal.returns-in-Err
returns-in-Err c = stops_there c.loop-passed.invariant (sym c.in-Err.ensures)

pub loop-passed-preserved : goal.loop-passed-preserved
loop-passed-preserved c =
    let i = c.loop-passed.passed in
    let less : c.args.number - (i + 1) ≡ c.args.number - i - 1 = omega arith in
    rw less (goes_older c.loop-passed.invariant (omega arith) (sym c.in-Ok.ensures))

pub returns : goal.returns
returns c = ends_there c.loop-passed.invariant (omega arith)
