use Prim.Native.Nat.{ℕ}
use mathlib.Core.Bool.{true}
use mathlib.Core.Path.{◌≡◌, ap, ◌∙◌}
use lib.ListN.{take}
use Rattle.scenario.specs.Items.{columns_before_comment, item_in, item_of}
use Rattle.scenario.proofs.read_line.Goals as goal

pub returns : goal.returns
unfolding item_of
returns c =
    let line = c.args.line.now in
    let b = c.before_comment in
    let e : b.result ≡ columns_before_comment true line = b.ensures.0 in
    c.read_item.ensures ∙ ap (λ (n : ℕ). item_in (take n line)) e
