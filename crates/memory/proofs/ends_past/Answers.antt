use Rattle.std.proofs.Common.{sym, refl, arith}
use Rattle.logic.proofs.Promises.{no_true}
use Rattle.memory.proofs.Testing.{past_not, past_by}
use Rattle.memory.proofs.ends_past.Goals as goal

pub returns-then-end-span : goal.returns-then-end-span
returns-then-end-span c = (past_by _ refl (omega arith) (omega arith) (omega arith), λ _. refl)

pub returns : goal.returns
returns c = (sym (past_not _ (omega arith)), no_true)
