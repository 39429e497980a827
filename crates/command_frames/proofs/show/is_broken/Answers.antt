use Rattle.std.proofs.Common.{◌≡◌, sym, ◌∙◌}
use Rattle.refusals.specs.Numbers.{record_broken}
use Rattle.reader.specs.Read.{counting}
use Rattle.command_frames.specs.Refusals.{refusal_in, broken_in}
use Rattle.command_frames.proofs.show.is_broken.Goals as goal

pub returns-in-Ok : goal.returns-in-Ok
unfolding broken_in
returns-in-Ok c =
    let none : refusal_in (counting c.args.buffer.now c.args.end 0) ≡ 0 = sym c.in-Ok.ensures in
    rw none

pub returns-in-Err : goal.returns-in-Err
unfolding broken_in
returns-in-Err c =
    let number : c.number.result ≡ refusal_in (counting c.args.buffer.now c.args.end 0) = c.number.ensures ∙ c.in-Err.ensures in
    let broken : c.number-in-Err.result ≡ record_broken = c.number-in-Err.ensures in
    rw (number, broken)
