use mathlib.Core.Path.{◌≡◌, refl, sym, ap, ◌∙◌}
use native.Mathlib.Omega.{arith}
use Rattle.encoding.specs.LittleEndian.{little_bytes}
use Rattle.encoding.specs.Written.{written_at}
use Rattle.frames.specs.Record.{variable}
use Rattle.frames.proofs.Decoding.{size_encode}
use Rattle.frames.proofs.Fitting.{leaves_all, leaves_none, variable_holds}
use Rattle.frames.proofs.write_variable.Goals as goal

pub returns-then-free-lt-VARIABLE_SIZE : goal.returns-then-free-lt-VARIABLE_SIZE
returns-then-free-lt-VARIABLE_SIZE c = let a = c.args in leaves_none _ _ _ _ (omega (arith, size_encode (variable a.number a.value)))

pub returns : goal.returns
returns c =
    let a = c.args in
    let l = a.free.now in
    let number : c.from.result ≡ a.number = c.from.ensures in
    leaves_all _ l 0 _ refl (sym (size_encode (variable a.number a.value))) (omega (arith, c))
    (c.put_little-2.ensures
    ∙ ap (λ m. written_at m 5 (little_bytes 8 a.value)) (rw number at c.put_little.ensures)
    ∙ variable_holds l a.number a.value)
