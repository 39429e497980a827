use mathlib.Core.Path.{◌≡◌, ap, ◌∙◌}
use Rattle.lilivrez_frames.specs.FrameValues.{read_number_of, read_values}
use Rattle.lilivrez_frames.proofs.reading.lilivrez_read.Goals as goal

pub returns-in-Err : goal.returns-in-Err
unfolding read_number_of read_values
returns-in-Err c =
    let q = c.in-Err.ensures in
    record { number = c.from.ensures ∙ c.number.ensures ∙ ap read_number_of q; values = ap read_values q }

pub returns-in-Memory : goal.returns-in-Memory
unfolding read_number_of read_values
returns-in-Memory c =
    let q = rw c.in-Memory.is at c.in-Ok.ensures in
    let tracepoint : c.from-tracepoint.result ≡ c.in-Ok.read.tag.tracepoint = c.from-tracepoint.ensures in
    record { number = ap read_number_of q; values = rw tracepoint (ap read_values q) }

pub returns-in-Variable : goal.returns-in-Variable
unfolding read_number_of read_values
returns-in-Variable c =
    let q = rw c.in-Variable.is at c.in-Ok.ensures in
    let tracepoint : c.from-tracepoint.result ≡ c.in-Ok.read.tag.tracepoint = c.from-tracepoint.ensures in
    record { number = ap read_number_of q; values = rw tracepoint (ap read_values q) }
