-- Pass 1 as the code runs it: the refusal at an offset case by case, and the loop with its two tables.
use mathlib.Core.Bool.{Bool, true, false, ◌||◌}
use mathlib.Core.List.{List, [], ◌∷◌, ◌++◌, append_assoc, append-nil}
use mathlib.Core.Path.{◌≡◌, refl, ap, sym, ◌∙◌}
use mathlib.Core.Logic.{◌≢◌}
use Prim.Native.Nat.{ℕ, suc, ◌+◌, ◌*◌, ◌≤◌, ◌<◌}
use native.Mathlib.Nat.{zero-add}
use native.Mathlib.Numerals.{add-one}
use native.Mathlib.Omega.{arith}
use native.Mathlib.Decide.{ℕ_discrete}
use lib.ListN.{get_or, length, set, take, replicate, length-set, length-replicate}
use lib.Seq.{take-suc-set, get_or-set_same, get_or-set_other}
use lib.Dec.{eqb}
use borrow.Author.Tests.{eq-eqb, ne_eqb, le-leb, lt-leb}
use Rattle.std.specs.Prelude.{Ok}
use Rattle.logic.specs.Tests.{member}
use Rattle.refusals.specs.Refusal.{refusal}
use Rattle.isa.specs.Classes.{kind_goto, kind_if_goto}
use Rattle.isa.specs.Decode.{kind_at, next, jumps}
use Rattle.isa.specs.Starts.{starts, starts_from, is_start}
use Rattle.logic.proofs.Promises.{cases, no_true}
use Rattle.isa.proofs.Promises.{jump_operands, from_end, from_next}
use Rattle.verdict.specs.Fault.{fault, first}
use Rattle.verdict.specs.Pass1.{fault1, pass1}
use Rattle.passes.specs.Joining.Tables.{jumps_among, jump_starts, Unmarked, Notes, Scanned, noted, counted}
use Rattle.verdict.proofs.Deciding.{first_nil, first_ok, first_fault, clear_holds, clear_fits, replicate_at}

-- ---- the starts marked in a table
abbrev marked : List ℕ → List Bool → List Bool
marked [] a = a
marked (k ∷ ks) a = marked ks (set a k true)

or_true : (b : Bool) → (b || true) ≡ true
or_true true = refl
or_true false = refl

or_false : (b : Bool) → (b || false) ≡ b
or_false true = refl
or_false false = refl

mark_one : (k x : ℕ) (b : Bool) (a : List Bool) → k < length a → (b || get_or (set a x true) k false) ≡ ((eqb k x || b) || get_or a k false)
mark_one k x b a h =
    elim (ℕ_discrete k x) [
      | yes p ↦ rw (eq-eqb k x p, p, get_or-set_same a x true false (rw p at h)) (or_true b)
      | no p ↦ rw (ne_eqb k x p, get_or-set_other a x k true false p)
    ]

marked_at : (ks : List ℕ) (a : List Bool) (k : ℕ) → k < length a → get_or (marked ks a) k false ≡ (member k ks || get_or a k false)
marked_at [] a k h = refl
marked_at (x ∷ ks) a k h = marked_at ks (set a x true) k (rw length-set h) ∙ mark_one k x (member k ks) a h

-- new tables, n and m long
pub unmarked_new : (e : List ℕ) (n m : ℕ) → length e ≤ n → length e ≤ 3 * m + 2 → Unmarked e (replicate n false) (replicate m 0)
unmarked_new e n m p q = record {
  marks_long = omega (arith, length-replicate n false);
  jumps_long = omega (arith, length-replicate {A = ℕ} m 0);
  no_mark = λ k. replicate_at n k false;
}

-- ---- the loop stands at offset i, after n instructions and j jumps
pub record Scanning (e : List ℕ) (i n j : ℕ) (m : List Bool) (a : List ℕ) : Type 0 where
  pub within : i ≤ length e
  pub few : n ≤ i
  pub few_jumps : 3 * j ≤ i
  pub marks_long : length e ≤ length m
  pub jumps_long : length e ≤ 3 * length a + 2
  pub same : first (fault1 e) (starts_from e i) ≡ pass1 e
  pub count : n + length (starts_from e i) ≡ length (starts e)
  pub marks : (k : ℕ) → k < length e → get_or (marked (starts_from e i) m) k false ≡ is_start e k
  pub jumped : take j a ++ jumps_among e (starts_from e i) ≡ jump_starts e

pub scanning_start : (e : List ℕ) (m : List Bool) (a : List ℕ) → Unmarked e m a → Scanning e 0 0 0 m a
unfolding is_start
scanning_start e m a u = record {
  within = omega arith;
  few = omega arith;
  few_jumps = omega arith;
  marks_long = u.marks_long;
  jumps_long = u.jumps_long;
  same = refl;
  count = zero-add (length (starts e));
  marks = λ k h. marked_at (starts e) m k (omega (arith, u.marks_long)) ∙ ap (λ (b : Bool). member k (starts e) || b) (u.no_mark k) ∙ or_false (member k (starts e));
  jumped = refl;
}

-- a jump has three bytes, so that there is room to note it
pub note_room : {e : List ℕ} {i n j : ℕ} {m : List Bool} {a : List ℕ} → Scanning e i n j m a → next e i ≤ length e
    → kind_goto ≤ kind_at e i → kind_at e i ≤ kind_if_goto → j < length a
note_room {e} {i} s f p q = omega (arith, s.few_jumps, s.jumps_long, jump_operands (get_or e i 0) p q)

module _ (e : List ℕ) (i j : ℕ) (a ks : List ℕ) (room : j ≤ length a) where
  -- the jumps noted before i, and those from i on
  jumped_by : (b : Bool) → jumps e i ≡ b → (b ≡ true → j < length a) → take j a ++ jumps_among e (i ∷ ks) ≡ take (counted b j) (noted b i j a) ++ jumps_among e ks
  unfolding jumps_among
  jumped_by true p h =
      rw (p, add-one j, take-suc-set a j i (h refl)) (sym (append_assoc (take j a) (i ∷ []) (jumps_among e ks)))
  jumped_by false p h = rw p

  few_by : (b : Bool) → jumps e i ≡ b → (n : ℕ) → 3 * j ≤ i → i + 1 ≤ n → (b ≡ true → i + 3 ≤ n) → 3 * counted b j ≤ n
  few_by true p n h l t = let z = t refl in omega arith
  few_by false p n h l t = omega arith

-- nothing is noted of what is no jump
pub notes_none : (e : List ℕ) (k n : ℕ) (a : List ℕ) {m : ℕ} {t : List ℕ} → jumps e k ≡ false → m ≡ n → t ≡ a → Notes (jumps e k) k n a m t
notes_none e k n a p q r = rw p (record { count_is = q; table_is = r })

noted_long : (b : Bool) (i j : ℕ) (a : List ℕ) → length (noted b i j a) ≡ length a
noted_long true i j a = length-set a j i
noted_long false i j a = refl

-- what jumps has the kind of goto or of if_goto
pub jumps_kind : (e : List ℕ) (i : ℕ) → jumps e i ≡ true → (kind_goto ≤ kind_at e i) × (kind_at e i ≤ kind_if_goto)
jumps_kind e i h =
    cases (kind_at e i) kind_goto (λ p. no_true (rw (lt-leb kind_goto (kind_at e i) p) at h))
    (λ p. cases kind_if_goto (kind_at e i) (λ q. no_true (rw (le-leb kind_goto (kind_at e i) p, lt-leb (kind_at e i) kind_if_goto q) at h)) (λ q. (p, q)))

module _ {e : List ℕ} {i n j : ℕ} {m : List Bool} {a : List ℕ} (s : Scanning e i n j m a) where
  pub scanning_turn : i < length e → fault1 e i ≡ 0
      → Scanning e (next e i) (n + 1) (counted (jumps e i) j) (set m i true) (noted (jumps e i) i j a)
  scanning_turn h f =
      let ks : List ℕ = starts_from e (next e i) in
      let three : jumps e i ≡ true → i + 3 ≤ next e i = λ t. let q = jumps_kind e i t in omega (arith, jump_operands (get_or e i 0) q.0 q.1) in
      let free : jumps e i ≡ true → j < length a = λ t. let q = jumps_kind e i t in note_room s (clear_fits e i f) q.0 q.1 in
      let some : j ≤ length a = omega (arith, s.jumps_long, s.few_jumps, s.within) in
      record {
        within = clear_fits e i f;
        few = omega (arith, s.few);
        few_jumps = few_by e i j a ks some (jumps e i) refl (next e i) s.few_jumps (omega arith) three;
        marks_long = rw (length-set m i true) s.marks_long;
        jumps_long = rw (noted_long (jumps e i) i j a) s.jumps_long;
        same = rw (from_next e i h, first_ok (fault1 e) i ks f) at s.same;
        count = let q : n + suc (length ks) ≡ length (starts e) = rw (from_next e i h) at s.count in omega arith;
        marks = rw (from_next e i h) at s.marks;
        jumped = sym (jumped_by e i j a ks some (jumps e i) refl free) ∙ rw (from_next e i h) at s.jumped;
      }

  pub scanning_fault : (r : ℕ) → i < length e → r ≡ fault1 e i → r ≢ 0 → pass1 e ≡ fault (refusal r i)
  scanning_fault r h q b =
      sym s.same ∙ rw (from_next e i h) (first_fault (fault1 e) i (starts_from e (next e i)) (λ z. b (q ∙ z)) ∙ ap (λ (x : ℕ). fault (refusal x i)) (sym q))

  pub scanning_end : length e ≤ 1024 → length e ≤ i → Scanned e (Ok n) m j a
  unfolding jumps_among
  scanning_end l h = (
    (clear_holds (fault1 e) e).0 (sym s.same ∙ rw (from_end e i h) (first_nil (fault1 e))),
    (let q : n + 0 ≡ length (starts e) = rw (from_end e i h) at s.count in omega arith),
    record { long = s.marks_long; says = rw (from_end e i h) at s.marks },
    record {
      few = omega (arith, s.few_jumps, s.within);
      room = omega (arith, s.jumps_long, s.few_jumps, s.within);
      same = sym (append-nil (take j a)) ∙ rw (from_end e i h) at s.jumped;
    },
  )
