use borrow.Author.Tests.{le-leb, lt-leb}
use native.Mathlib.Omega.{arith}
use Prim.Native.Nat.{◌-◌}
use lib.ListN.{length}
use Rattle.frames.specs.Trailer.{trailer_size}
use Rattle.stepping.proofs.do_end.Goals as goal

pub returns-then-buffer-place-lt-TRAILER_SIZE : goal.returns-then-buffer-place-lt-TRAILER_SIZE
returns-then-buffer-place-lt-TRAILER_SIZE c = rw (lt-leb trailer_size (length c.args.buffer.now - c.args.place.put) (omega arith))

pub returns : goal.returns
returns c = rw (le-leb trailer_size (length c.args.buffer.now - c.args.place.put) (omega arith))
