use native.Mathlib.Omega.{arith}
use mathlib.Core.Path.{sym, ap, ◌∙◌}
use borrow.Author.Tests.{ltb-true}
use Rattle.std.proofs.Common.{Bor, List, ℕ, length}
use Rattle.instruction_text.proofs.Opcodes.{name_none, name_at, texts_length}
use Rattle.instruction_text.proofs.names.name_of.Goals as goal

pub returns-in-Some : goal.returns-in-Some
returns-in-Some c = ap (λ (x : Bor (List ℕ)). x.now) c.in-Some.ensures.lookup.1 ∙ name_at c.names.result.now c.names.ensures c.args.opcode _ (omega (arith, ltb-true c.args.opcode (length c.names.result.now) (sym c.in-Some.ensures.lookup.0), texts_length c.names.result.now c.names.ensures))

pub returns-in-None : goal.returns-in-None
returns-in-None c = name_none _ (omega (arith, c.in-None.ensures.lookup, texts_length c.names.result.now c.names.ensures))
