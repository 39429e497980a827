use mathlib.Core.Path.{◌≡◌}
use native.Mathlib.Omega.{arith}
use lib.ListN.{get_or}
use Rattle.frames.specs.Record.{field}
use Rattle.frames.proofs.Reading.{some_there, memory_there, variable_there, tells_memory, tells_variable}
use Rattle.frames.proofs.read_record.Goals as goal

pub bounds-bytes-0 : goal.bounds-bytes-0
bounds-bytes-0 c = some_there _ c.requires

pub slice_bounds-little_endian-end : goal.slice_bounds-little_endian-end
slice_bounds-little_endian-end c = omega (arith, (memory_there _ c.requires (omega arith)).fits)

pub slice_bounds-little_endian-end-then-bytes-eq77 : goal.slice_bounds-little_endian-end-then-bytes-eq77
slice_bounds-little_endian-end-then-bytes-eq77 c = omega (arith, (memory_there _ c.requires (omega arith)).fits)

pub slice_bounds-little_endian-end-2 : goal.slice_bounds-little_endian-end-2
slice_bounds-little_endian-end-2 c = omega (arith, (variable_there _ c.requires (λ e. omega arith)).fits)

pub bounds-bytes-1 : goal.bounds-bytes-1
bounds-bytes-1 c = omega (arith, (variable_there _ c.requires (λ e. omega arith)).fits)

pub returns-then-bytes-eq77 : goal.returns-then-bytes-eq77
returns-then-bytes-eq77 c =
    let l = c.args.bytes.now in
    let address : c.little_endian-address.result ≡ field l 1 8 = c.little_endian-address.ensures.0 in
    let count : c.little_endian-length.result ≡ field l 9 2 = c.little_endian-length.ensures.0 in
    rw (address, count) (tells_memory l c.requires (omega arith))

pub returns : goal.returns
returns c =
    let l = c.args.bytes.now in
    let number : c.from-number.result ≡ get_or l 1 0 = c.from-number.ensures in
    let value : c.little_endian-value.result ≡ field l 5 8 = c.little_endian-value.ensures.0 in
    rw (number, value) (tells_variable l c.requires (λ e. omega arith))
