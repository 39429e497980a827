use mathlib.Core.Path.{◌≡◌, ap, ◌∙◌}
use Rattle.lilivrez_frames.specs.FrameValues.{locate_number, locate_values, walk_values}
use Rattle.lilivrez_frames.proofs.finding.lilivrez_walk.Goals as goal

pub returns-in-Err : goal.returns-in-Err
unfolding locate_number locate_values walk_values
returns-in-Err c =
    let q = c.in-Err.ensures in
    record { number = c.from.ensures ∙ c.number.ensures ∙ ap locate_number q; values = ap (walk_values c.args.place) q }

pub returns-in-Ok : goal.returns-in-Ok
unfolding locate_number locate_values walk_values
returns-in-Ok c =
    let q = c.in-Ok.ensures in
    let tracepoint : c.from-tracepoint.result ≡ c.in-Ok.found.tag.tracepoint = c.from-tracepoint.ensures in
    record { number = ap locate_number q; values = rw tracepoint (ap (walk_values c.args.place) q) }
