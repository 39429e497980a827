use mathlib.Core.Path.{◌≡◌, refl, sym, ap, ◌∙◌}
use native.Mathlib.Omega.{arith}
use Rattle.encoding.specs.LittleEndian.{little_bytes}
use Rattle.encoding.specs.Written.{written_at}
use Rattle.frames.proofs.Closing.{trailer_length, trailer_holds}
use Rattle.frames.proofs.Fitting.{leaves_all, leaves_none}
use Rattle.frames.proofs.trailer.write_trailer.Goals as goal

pub returns-then-free-lt-TRAILER_SIZE : goal.returns-then-free-lt-TRAILER_SIZE
returns-then-free-lt-TRAILER_SIZE c = let a = c.args in leaves_none _ _ _ _ (omega (arith, trailer_length a.tag a.length))

pub returns : goal.returns
returns c =
    let a = c.args in
    let l = a.free.now in
    let tracepoint : c.from.result ≡ a.tag.tracepoint = c.from.ensures in
    let long : c.from-2.result ≡ a.length = c.from-2.ensures in
    leaves_all _ l 0 _ refl (sym (trailer_length a.tag a.length)) (omega (arith, c))
    (rw long at c.put_little-2.ensures
    ∙ ap (λ m. written_at m 4 (little_bytes 4 a.length)) (rw tracepoint at c.put_little.ensures)
    ∙ trailer_holds l a.tag a.length)
