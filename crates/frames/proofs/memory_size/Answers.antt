use Prim.Native.Nat.{◌<◌, ◌^◌}
use lib.ListN.{length, take, drop, length-drop}
use lib.Seq.{length-take-le}
use mathlib.Core.Path.{◌≡◌}
use native.Mathlib.Omega.{arith}
use Rattle.frames.specs.Record.{field}
use Rattle.frames.proofs.Reading.{no_memory, a_memory}
use Rattle.frames.proofs.memory_size.Goals as goal

pub returns-then-bytes-lt-MEMORY_HEADER : goal.returns-then-bytes-lt-MEMORY_HEADER
returns-then-bytes-lt-MEMORY_HEADER c = no_memory _ (λ s h. omega arith)

pub returns-then-count-eq0 : goal.returns-then-count-eq0
returns-then-count-eq0 c = no_memory _ (λ s h. omega (arith, c.little_endian-count.ensures.0))

pub overflow_add-size : goal.overflow_add-size
overflow_add-size c =
    let l = c.args.bytes.now in
    let low : c.little_endian-count.result < 256 ^ length (take 2 (drop 9 l)) = c.little_endian-count.ensures.1 in
    let long = length-take-le 2 (drop 9 l) (omega (arith, length-drop 9 l)) in
    record { fits = omega (arith, rw long at low) }

pub returns-then-bytes-size : goal.returns-then-bytes-size
returns-then-bytes-size c = no_memory _ (λ s h. omega (arith, c.little_endian-count.ensures.0))

pub returns : goal.returns
returns c =
    let l = c.args.bytes.now in
    let count : c.little_endian-count.result ≡ field l 9 2 = c.little_endian-count.ensures.0 in
    rw count (a_memory l (omega arith) (omega arith))
