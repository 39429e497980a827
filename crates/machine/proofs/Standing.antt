-- Where the machine stands after n moves, and how it ends from there.
use mathlib.Core.Path.{◌≡◌, refl, ap, ◌∙◌}
use Prim.Native.Nat.{ℕ, zero, suc, ◌+◌, ◌-◌, ◌≤◌}
use native.Mathlib.Omega.{arith}
use Rattle.machine.specs.Given.{Given}
use Rattle.machine.specs.Machine.{Ended, Standing, stands, over, onward, moves}
use Rattle.machine.specs.Run.{begun, ended}
use Rattle.machine.specs.Standing.{next, standing_from, standing}

module _ (g : Given) where
  onward_next : (k : ℕ) (s : Standing) → onward (moves g (suc k)) s ≡ onward (moves g k) (next g s)
  unfolding moves
  onward_next k (stands st) = refl
  onward_next k (over o) = refl

  -- n and k moves from s are k moves from where n lead
  pub moves_standing : (s : Standing) {left : ℕ} (n k : ℕ) → left ≡ n + k → onward (moves g left) s ≡ onward (moves g k) (standing_from g s n)
  unfolding standing_from
  moves_standing s {left} zero k e = let f : left ≡ k = omega arith in rw f refl
  moves_standing s (suc n) k e = moves_standing s n (suc k) (omega arith) ∙ onward_next k (standing_from g s n)

  pub ended_standing : (n : ℕ) → n ≤ g.allowance → ended g ≡ onward (moves g (g.allowance - n)) (standing g n)
  unfolding ended
  ended_standing n h = moves_standing (begun g) n (g.allowance - n) (omega arith)

  -- what has ended stays so
  stays_by : (s : Standing) (n k : ℕ) {o : Ended} → standing_from g s n ≡ over o → standing_from g s (k + n) ≡ over o
  unfolding standing_from
  stays_by s n zero p = let e : 0 + n ≡ n = omega arith in rw e p
  stays_by s n (suc k) p = let e : suc k + n ≡ suc (k + n) = omega arith in rw e (ap (next g) (stays_by s n k p))

  pub over_stays : (s : Standing) (n k : ℕ) {o : Ended} → standing_from g s n ≡ over o → n ≤ k → standing_from g s k ≡ over o
  over_stays s n k p h = let e : k - n + n ≡ k = omega arith in rw e at (stays_by s n (k - n) p)
