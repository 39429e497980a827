-- Where every walk fits, each can be continued to an end.
use mathlib.Core.Bool.{true}
use mathlib.Core.List.{List, [], ◌∷◌}
use mathlib.Core.Path.{◌≡◌, refl}
use mathlib.Core.Logic.{◌≢◌}
use Prim.Native.Nat.{ℕ, zero, suc, ◌+◌, ◌≤◌, ◌<◌}
use native.Mathlib.Omega.{arith}
use native.Mathlib.Decide.{ℕ_discrete}
use lib.ListN.{length, length-append}
use Rattle.isa.specs.Classes.{kind_goto, kind_end}
use Rattle.isa.specs.Decode.{kind_at, next, operand}
use Rattle.isa.specs.Starts.{is_start}
use Rattle.isa.specs.Walk.{After, target, onward, Walk, stop}
use Rattle.isa.proofs.Promises.{start_in, start_zero, walk_last, walk_on}
use Rattle.verdict.specs.Pass2.{Aims}
use Rattle.verdict.specs.Acceptance.{WalksFit, ToEnd}
use Rattle.verdict.proofs.Along.{after_later, later_start}

-- a walk to an end that has at least the length of the walk w to j, and a greater one where w does not yet end at an
-- end
pub record Continued (e : List ℕ) (w : List ℕ) (j u : ℕ) : Type 0 where
  pub list : List ℕ
  pub to_end : ToEnd e list
  pub long : length w ≤ length list
  pub longer : kind_at e j ≢ kind_end → length w < length list

-- something comes after every instruction but end
follower : (e : List ℕ) (k : ℕ) → kind_at e k ≢ kind_end → (m : ℕ) × After e k m
follower e k n =
    elim (ℕ_discrete (kind_at e k) kind_goto) [
      | yes p ↦ (operand e k, target (omega arith) (omega arith) refl)
      | no p ↦ (next e k, onward p n refl)
    ]

module _ (e : List ℕ) (fit : WalksFit e (length e)) (aims : Aims e) where
  -- what comes after the last instruction of a walk is a start
  pub follows : {w : List ℕ} {j u m : ℕ} → Walk e 0 0 w j u → After e j m → is_start e m ≡ true
  follows {j = j} x a = later_start aims (walk_last x) a (fit.stays x (start_in e j (walk_last x)) a)

  -- with at most n bytes from j on, the walk can be continued to an end
  ends_within : (n : ℕ) {w : List ℕ} {j u : ℕ} → Walk e 0 0 w j u → length e ≤ j + n → Continued e w j u
  ends_within zero {j = j} x h = absurd (omega (arith, start_in e j (walk_last x)))
  ends_within (suc n) {w} {j} {u} x h =
      elim (ℕ_discrete (kind_at e j) kind_end) [
        | yes p ↦ record { list = w; to_end = (j, u, x, p); long = omega arith; longer = λ q. absurd (q p) }
        | no p ↦
            let a = follower e j p in
            let r = ends_within n (walk_on x a.1 (follows x a.1)) (omega (arith, after_later aims (walk_last x) a.1)) in
            let l : length w < length r.list = omega (arith, r.long, length-append w (a.0 ∷ [])) in
            record { list = r.list; to_end = r.to_end; long = omega arith; longer = λ q. l }
      ]

  -- every walk can be continued to an end
  pub ends : {w : List ℕ} {j u : ℕ} → Walk e 0 0 w j u → Continued e w j u
  ends x = ends_within (length e) x (omega arith)

  -- there is a walk from offset 0 to an end
  pub some_end : 1 ≤ length e → Continued e (0 ∷ []) 0 0
  some_end h = ends (stop (start_zero e h))
