use mathlib.Core.Path.{◌≡◌, ap, ◌∙◌}
use Rattle.lilivrez_frames.specs.FrameValues.{count_number, count_values}
use Rattle.lilivrez_frames.proofs.reading.lilivrez_count.Goals as goal

pub returns-in-Err : goal.returns-in-Err
unfolding count_number count_values
returns-in-Err c =
    let q = c.in-Err.ensures in
    record { number = c.from.ensures ∙ c.number.ensures ∙ ap count_number q; values = ap count_values q }

pub returns-in-Ok : goal.returns-in-Ok
unfolding count_number count_values
returns-in-Ok c =
    let q = c.in-Ok.ensures in
    let tracepoint : c.from-tracepoint.result ≡ c.in-Ok.counted.frame.tag.tracepoint = c.from-tracepoint.ensures in
    record { number = ap count_number q; values = rw tracepoint (ap count_values q) }
