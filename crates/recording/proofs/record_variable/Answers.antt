use mathlib.Core.Path.{refl}
use native.Mathlib.Omega.{arith}
use Rattle.frames.specs.Record.{variable}
use Rattle.recording.proofs.Appending.{one_in, one_made}
use Rattle.recording.proofs.record_variable.Goals as goal

pub behind-requires : goal.behind-requires
behind-requires c = one_in _ _ (variable c.args.number c.args.value) c.requires refl _ c.append_variable.ensures (omega arith)

pub returns : goal.returns
returns c = one_made _ _ (variable c.args.number c.args.value) c.requires refl _ c.append_variable.ensures c.behind.ensures
