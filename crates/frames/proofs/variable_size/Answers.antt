use mathlib.Core.Path.{◌≡◌}
use native.Mathlib.Omega.{arith}
use Rattle.frames.specs.Record.{field}
use Rattle.frames.proofs.Reading.{no_variable, a_variable}
use Rattle.frames.proofs.variable_size.Goals as goal

pub returns-then-bytes-lt-VARIABLE_SIZE : goal.returns-then-bytes-lt-VARIABLE_SIZE
returns-then-bytes-lt-VARIABLE_SIZE c = no_variable _ (λ s h. omega arith)

pub returns-then-number : goal.returns-then-number
returns-then-number c = no_variable _ (λ s h. omega (arith, c.little_endian-number.ensures.0))

pub returns : goal.returns
returns c =
    let l = c.args.bytes.now in
    let number : c.little_endian-number.result ≡ field l 1 4 = c.little_endian-number.ensures.0 in
    a_variable l (omega arith) (omega arith)
