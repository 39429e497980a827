use mathlib.Core.Path.{◌≡◌}
use Prim.Native.Nat.{◌-◌}
use lib.ListN.{length}
use Rattle.std.specs.Prelude.{is_some}
use Rattle.std.specs.Option.{option_copied}
use Rattle.io.specs.Counts.{IsPrefixLen}
use Rattle.text_buffer.proofs.Promises.{Going}
use Rattle.verify_lines.specs.Listed.{cells_of}
use Rattle.verify_lines.proofs.Rows.{rows_from}
use Rattle.verify_lines.proofs.listed.append_listing.Given as goal

abbrev pub invariant-loop-text : goal.invariant-loop-text
invariant-loop-text l =
    let hs = cells_of (option_copied l.heights) in
    Going l.initial.text.bytes.now l.initial.text.end (rows_from l.code hs (is_some l.heights) 0) (rows_from l.code hs (is_some l.heights) l.k) l.text.bytes.now l.text.end × IsPrefixLen l.text.end l.text.bytes.now × (l.text.bytes.ghost_name ≡ l.initial.text.bytes.ghost_name)

abbrev pub decreases-loop-text : goal.decreases-loop-text
decreases-loop-text l = length l.code - l.k
