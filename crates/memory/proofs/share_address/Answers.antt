use Rattle.std.proofs.Common.{refl, arith}
use Rattle.logic.proofs.Promises.{no_true}
use Rattle.memory.proofs.Testing.{share_up, share_down, share_not}
use Rattle.memory.proofs.share_address.Goals as goal

pub returns-then-high-low : goal.returns-then-high-low
returns-then-high-low c = (share_up _ _ (omega arith) (omega arith), λ _. refl)

pub returns-then-low-high : goal.returns-then-low-high
returns-then-low-high c = (share_not _ _ (omega arith), no_true)

pub returns-then-low-high-2 : goal.returns-then-low-high-2
returns-then-low-high-2 c = (share_down _ _ (omega arith) (omega arith), λ _. refl)

pub returns : goal.returns
returns c = (share_not _ _ (omega arith), no_true)
