use Prim.Native.Nat.{◌+◌, ◌-◌}
use mathlib.Core.Path.{ap, ◌∙◌}
use native.Mathlib.Omega.{arith}
use lib.ListN.{length}
use borrow.Rule.Slice.PartMut.{put_mid}
use Rattle.encoding.proofs.Writing.{part_copied}
use Rattle.encoding.proofs.put_whole.Goals as goal

pub returns : goal.returns
returns c =
    let a = c.args in
    let k = a.at + length a.bytes.now - a.at in
    ap (put_mid a.at k a.out.now) c.copy_from_slice.ensures.after ∙ part_copied a.out.now a.at k a.bytes.now c.requires (omega arith)
