use mathlib.Core.Path.{sym, ap, ◌∙◌}
use native.Mathlib.Omega.{arith}
use lib.ListN.{length}
use borrow.Author.Tests.{le-leb, lt-leb}
use Rattle.encoding.specs.LittleEndian.{little_bytes}
use Rattle.encoding.specs.Written.{written_at}
use Rattle.frames.specs.Record.{memory}
use Rattle.frames.proofs.Decoding.{size_encode}
use Rattle.frames.proofs.Fitting.{leaves_all, leaves_unformed, leaves_none, memory_holds}
use Rattle.frames.proofs.write_memory.Goals as goal

pub returns-then-count-gt-RECORD_MOST : goal.returns-then-count-gt-RECORD_MOST
returns-then-count-gt-RECORD_MOST c = leaves_unformed _ _ _ _ (lt-leb _ _ c.if-count-gt-RECORD_MOST.true)

pub returns-then-free-count : goal.returns-then-free-count
returns-then-free-count c = let a = c.args in leaves_none _ _ _ _ (omega (arith, size_encode (memory a.address a.bytes.now)))

pub returns : goal.returns
returns c =
    let a = c.args in
    let l = a.free.now in
    let bs = a.bytes.now in
    leaves_all _ l 0 _ (le-leb (length bs) 65535 c.if-count-gt-RECORD_MOST.false) (sym (size_encode (memory a.address bs)))
    (omega (arith, c))
    (c.put_bytes.ensures
    ∙ ap (λ m. written_at m 11 bs) (c.put_little-2.ensures ∙ ap (λ m. written_at m 9 (little_bytes 2 (length bs))) c.put_little.ensures)
    ∙ memory_holds l a.address bs)
