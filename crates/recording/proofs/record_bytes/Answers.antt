use borrow.Author.Tests.{le-leb}
use native.Mathlib.Omega.{arith}
use Rattle.frames.specs.Record.{memory}
use Rattle.recording.proofs.Appending.{one_in, one_made}
use Rattle.recording.proofs.record_bytes.Goals as goal

pub behind-requires : goal.behind-requires
behind-requires c = one_in _ _ (memory c.args.address c.args.bytes.now) c.requires.room (le-leb _ _ c.requires.size) _ c.append_memory.ensures (omega arith)

pub returns : goal.returns
returns c = one_made _ _ (memory c.args.address c.args.bytes.now) c.requires.room (le-leb _ _ c.requires.size) _ c.append_memory.ensures c.behind.ensures
