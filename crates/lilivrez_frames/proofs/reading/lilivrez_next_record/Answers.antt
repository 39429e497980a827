use mathlib.Core.Path.{ap, ◌∙◌}
use Rattle.lilivrez_frames.specs.FrameValues.{step_number, step_values}
use Rattle.lilivrez_frames.proofs.reading.lilivrez_next_record.Goals as goal

pub returns-in-Err : goal.returns-in-Err
unfolding step_number step_values
returns-in-Err c =
    let q = c.in-Err.ensures in
    record { number = c.from.ensures ∙ c.number.ensures ∙ ap step_number q; values = ap (step_values c.args.place) q }

pub returns-in-Memory : goal.returns-in-Memory
unfolding step_number step_values
returns-in-Memory c =
    let q = rw c.in-Memory.is at c.in-Ok.ensures in
    record { number = ap step_number q; values = ap (step_values c.args.place) q }

pub returns-in-Variable : goal.returns-in-Variable
unfolding step_number step_values
returns-in-Variable c =
    let q = rw c.in-Variable.is at c.in-Ok.ensures in
    record { number = ap step_number q; values = ap (step_values c.args.place) q }
