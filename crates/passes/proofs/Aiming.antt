-- Pass 2 as the code runs it: the table of marks, the refusal at a jump case by case, and the loop over the jumps
-- noted.
use mathlib.Core.Bool.{Bool, true, false}
use mathlib.Core.List.{List, [], ◌∷◌}
use mathlib.Core.Path.{◌≡◌, refl, ap, sym, ◌∙◌, subst}
use mathlib.Core.Logic.{◌≢◌}
use Prim.Native.Nat.{ℕ, zero, suc, ◌+◌, ◌≤◌, ◌<◌}
use native.Mathlib.Nat.{not-suc-le-zero, le_of_suc-le-suc}
use native.Mathlib.Numerals.{add-one}
use native.Mathlib.Omega.{arith}
use native.Mathlib.Decide.{ℕ_discrete}
use lib.ListN.{get_or, length, take, drop, drop_of_length-le}
use lib.Seq.{get_or-take, drop-cons, length-take-le}
use Rattle.logic.specs.Tests.{member}
use Rattle.refusals.specs.Refusal.{refusal}
use Rattle.isa.specs.Decode.{jumps}
use Rattle.isa.specs.Starts.{starts, is_start}
use Rattle.verdict.proofs.Deciding.{f_other, first_nil, first_ok, first_fault, clear_holds}
use Rattle.logic.proofs.Promises.{member_here, member_there}
use Rattle.verdict.specs.Fault.{fault, first}
use Rattle.verdict.specs.Pass2.{fault2, pass2, Aims}
use Rattle.passes.specs.Joining.Tables.{Marked, jumps_among, jump_starts, JumpsNoted}

-- ---- the table of marks
-- the mark that the table has at t says whether u, which equals t, is a start
pub mark_says : (e : List ℕ) (u : ℕ) (m : List Bool) (t : ℕ) (b : Bool) → get_or m t false ≡ b → Marked e m → t ≡ u → t < length e → is_start e u ≡ b
mark_says e u m t b p q r h = ap (is_start e) (sym r) ∙ sym (q.says t h) ∙ p

-- ---- the jumps among the starts
module _ (e : List ℕ) where
  first_skip : (k : ℕ) (ks : List ℕ) (b : Bool) → jumps e k ≡ b → first (fault2 e) (jumps_among e ks) ≡ first (fault2 e) ks
      → first (fault2 e) (jumps_among e (k ∷ ks)) ≡ first (fault2 e) (k ∷ ks)
  unfolding jumps_among
  first_skip k ks true j r =
      rw j (elim (ℕ_discrete (fault2 e k) 0) [
        | yes p ↦ first_ok (fault2 e) k (jumps_among e ks) p ∙ r ∙ sym (first_ok (fault2 e) k ks p)
        | no p ↦ first_fault (fault2 e) k (jumps_among e ks) p ∙ sym (first_fault (fault2 e) k ks p)
      ])
  first_skip k ks false j r = rw j (r ∙ sym (first_ok (fault2 e) k ks (f_other e k j)))

  -- the first fault among the jumps is the first among all starts
  pub first_jumps : (ks : List ℕ) → first (fault2 e) (jumps_among e ks) ≡ first (fault2 e) ks
  unfolding jumps_among
  first_jumps [] = refl
  first_jumps (k ∷ ks) = first_skip k ks (jumps e k) refl (first_jumps ks)

  -- what stands among the jumps is a start, and a jump
  abbrev AmongAt : List ℕ → List ℕ → Type 0
  AmongAt ks js = (i : ℕ) → i < length js → (member (get_or js i 0) ks ≡ true) × (jumps e (get_or js i 0) ≡ true)

  among_same : (ks : List ℕ) {js js' : List ℕ} → js ≡ js' → AmongAt ks js → AmongAt ks js'
  among_same ks p r = subst (AmongAt ks) p r

  among_cons : (k : ℕ) (ks : List ℕ) (b : Bool) → jumps e k ≡ b → AmongAt ks (jumps_among e ks) → AmongAt (k ∷ ks) (jumps_among e (k ∷ ks))
  unfolding jumps_among
  among_cons k ks false j r =
      let p : jumps_among e (k ∷ ks) ≡ jumps_among e ks = rw j refl in
      among_same (k ∷ ks) (sym p) (λ i h. let q = r i h in (member_there (get_or (jumps_among e ks) i 0) k ks q.0, q.1))
  among_cons k ks true j r =
      let p : jumps_among e (k ∷ ks) ≡ (k ∷ jumps_among e ks) = rw j refl in
      among_same (k ∷ ks) (sym p) both
    where
      both : AmongAt (k ∷ ks) (k ∷ jumps_among e ks)
      both zero h = (member_here k k ks refl, j)
      both (suc i) h = let q = r i (le_of_suc-le-suc h) in (member_there (get_or (jumps_among e ks) i 0) k ks q.0, q.1)

  among_at : (ks : List ℕ) → AmongAt ks (jumps_among e ks)
  unfolding jumps_among
  among_at [] = λ i h. absurd (not-suc-le-zero h)
  among_at (k ∷ ks) = among_cons k ks (jumps e k) refl (among_at ks)

-- ---- the loop over the jumps noted, at the i-th
pub record Aiming (e : List ℕ) (n : ℕ) (a : List ℕ) (i : ℕ) : Type 0 where
  pub within : i ≤ n
  pub same : first (fault2 e) (drop i (take n a)) ≡ pass2 e

pub aiming_start : {e : List ℕ} {n : ℕ} {a : List ℕ} → JumpsNoted e a n → Aiming e n a 0
aiming_start {e} s = record { within = omega arith; same = ap (first (fault2 e)) s.same ∙ first_jumps e (starts e) }

-- what is noted at i is a start, and a jump
pub noted_at : {e : List ℕ} {n : ℕ} {a : List ℕ} → JumpsNoted e a n → (i : ℕ) → i < n → (is_start e (get_or a i 0) ≡ true) × (jumps e (get_or a i 0) ≡ true)
unfolding is_start
noted_at {e} {n} {a} s i h =
    let l : i < length (jump_starts e) = omega (arith, length-take-le n a s.room, ap length s.same) in
    let q : get_or (jump_starts e) i 0 ≡ get_or a i 0 = ap (λ (x : List ℕ). get_or x i 0) (sym s.same) ∙ get_or-take n a i 0 h in
    rw q at (among_at e (starts e) i l)

module _ {e : List ℕ} {n : ℕ} {a : List ℕ} {i : ℕ} (room : n ≤ length a) (s : Aiming e n a i) where
  here : i < n → drop i (take n a) ≡ get_or a i 0 ∷ drop (i + 1) (take n a)
  here h = rw (add-one i) (drop-cons (take n a) i 0 (rw (length-take-le n a room) h) ∙ ap (λ (x : ℕ). x ∷ drop (suc i) (take n a)) (get_or-take n a i 0 h))

  pub aiming_turn : i < n → fault2 e (get_or a i 0) ≡ 0 → Aiming e n a (i + 1)
  aiming_turn h f = record {
    within = omega arith;
    same = sym (first_ok (fault2 e) (get_or a i 0) (drop (i + 1) (take n a)) f) ∙ rw (here h) at s.same;
  }

  pub aiming_fault : {r k : ℕ} → i < n → k ≡ get_or a i 0 → r ≡ fault2 e k → r ≢ 0 → pass2 e ≡ fault (refusal r k)
  aiming_fault {r} {k} h p q b =
      let z : fault2 e (get_or a i 0) ≡ r = ap (fault2 e) (sym p) ∙ sym q in
      let t : first (fault2 e) (drop i (take n a)) ≡ fault (refusal (fault2 e (get_or a i 0)) (get_or a i 0))
      = rw (here h) (first_fault (fault2 e) (get_or a i 0) (drop (i + 1) (take n a)) (λ y. b (sym z ∙ y))) in
      rw (← z, p) (sym s.same ∙ t)

  pub aiming_end : n ≤ i → Aims e
  aiming_end h =
      let t : drop i (take n a) ≡ [] = drop_of_length-le (take n a) {i = i} (rw (length-take-le n a room) h) in
      (clear_holds (fault2 e) e).0 (sym s.same ∙ rw t (first_nil (fault2 e)))
