use Prim.Native.Nat.{◌<◌, ◌^◌}
use lib.ListN.{length, take, drop, length-drop}
use lib.Seq.{length-take-le}
use mathlib.Core.Path.{◌≡◌}
use native.Mathlib.Omega.{arith}
use Rattle.frames.specs.Record.{field}
use Rattle.frames.proofs.Closing.{no_trailer, a_trailer}
use Rattle.frames.proofs.trailer.read_trailer.Goals as goal

pub returns-then-bytes-ne-TRAILER_SIZE : goal.returns-then-bytes-ne-TRAILER_SIZE
returns-then-bytes-ne-TRAILER_SIZE c = no_trailer _ (λ n m s. omega arith)

pub returns-then-bytes-ne70 : goal.returns-then-bytes-ne70
returns-then-bytes-ne70 c = no_trailer _ (λ n m s. omega arith)

pub returns-then-bytes-ne0 : goal.returns-then-bytes-ne0
returns-then-bytes-ne0 c = no_trailer _ (λ n m s. omega arith)

pub overflow_cast-tracepoint : goal.overflow_cast-tracepoint
overflow_cast-tracepoint c =
    let l = c.args.bytes.now in
    let low : c.little_endian-tracepoint.result < 256 ^ length (take 2 (drop 2 l)) = c.little_endian-tracepoint.ensures.1 in
    let long = length-take-le 2 (drop 2 l) (omega (arith, length-drop 2 l)) in
    record { fits = omega (arith, rw long at low) }

pub returns : goal.returns
returns c =
    let l = c.args.bytes.now in
    let tracepoint : c.little_endian-tracepoint.result ≡ field l 2 2 = c.little_endian-tracepoint.ensures.0 in
    let long : c.little_endian-length.result ≡ field l 4 4 = c.little_endian-length.ensures.0 in
    rw (tracepoint, long) (a_trailer l (omega arith) (omega arith) (omega arith))
