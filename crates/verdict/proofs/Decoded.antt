-- Laws of passes 1 and 2: the equations of the first fault, which fault a pass finds, and what is known of every start
-- where there is none.
use mathlib.Core.Bool.{Bool, true, false, ◌&&◌, ◌||◌}
use mathlib.Core.List.{List, [], ◌∷◌}
use mathlib.Core.Path.{◌≡◌, refl, ap, sym, ◌∙◌}
use mathlib.Core.Logic.{◌↔◌, ⊎_elim, ◌≢◌}
use Prim.Native.Nat.{ℕ, ◌≤◌, ◌<◌}
use native.Mathlib.Omega.{arith}
use native.Mathlib.Decide.{ℕ_discrete}
use lib.ListN.{length}
use lib.Dec.{eqb, leb}
use borrow.Author.Tests.{eq-eqb, ne_eqb, eqb-false, ltb-false, le-leb, leb-false, not-false}
use Rattle.sizes.specs.Sizes.{variable_count}
use Rattle.logic.specs.Tests.{member}
use Rattle.refusals.specs.Refusal.{Refusal, refusal}
use Rattle.isa.specs.Classes.{kind_unsupported, kind_ext, kind_variable, kind_goto, kind_if_goto}
use Rattle.isa.specs.Decode.{kind_at, next, operand}
use Rattle.isa.specs.Starts.{starts_from, starts, is_start}
use Rattle.logic.proofs.Promises.{cases, no_true, member_cons, member_here, member_there}
use Rattle.refusals.proofs.Promises.{none_holds}
use Rattle.isa.proofs.Promises.{from_end, from_next, by_starts}
use Rattle.verdict.specs.Fault.{Fault, none, fault, first, Clear}
use Rattle.verdict.specs.Pass1.{tests1, fault1, Decodes}
use Rattle.verdict.specs.Pass2.{tests2, fault2, Aims}
use Rattle.verdict.specs.Acceptance.{FirstFault}

-- ---- the equations of the first fault
pub first_nil : (f : ℕ → ℕ) → first f [] ≡ none
unfolding first
first_nil f = refl

module _ (f : ℕ → ℕ) (k : ℕ) (ks : List ℕ) where
  pub first_ok : f k ≡ 0 → first f (k ∷ ks) ≡ first f ks
  unfolding first
  first_ok h = rw (eq-eqb (f k) 0 h, first)

  pub first_fault : f k ≢ 0 → first f (k ∷ ks) ≡ fault (refusal (f k) k)
  unfolding first
  first_fault h = rw (ne_eqb (f k) 0 h, first)

  -- where no fault is found, there is none at the first offset, and none is found after it
  pub first_none : first f (k ∷ ks) ≡ none → (f k ≡ 0) × (first f ks ≡ none)
  first_none h =
      elim (ℕ_discrete (f k) 0) [
        | yes p ↦ (p, sym (first_ok p) ∙ h)
        | no p ↦ absurd (let z : ◌≡◌ {A = ℕ} 0 1 = cc (first_fault p) in omega arith)
      ]

-- ---- which fault a pass finds
fault_same : {x y : Refusal} → fault x ≡ fault y → x ≡ y
fault_same p = cc

-- a fault that is found has a number and an offset, and nothing else
first_plain : (f : ℕ → ℕ) (ks : List ℕ) (x : Refusal) → first f ks ≡ fault x → x ≡ refusal x.number x.offset
first_plain f [] x h = absurd (let z : ◌≡◌ {A = ℕ} 0 1 = cc (first_nil f) in omega arith)
first_plain f (k ∷ ks) x h =
    elim (ℕ_discrete (f k) 0) [
      | yes p ↦ first_plain f ks x (sym (first_ok f k ks p) ∙ h)
      | no p ↦ let q : refusal (f k) k ≡ x = fault_same (sym (first_fault f k ks p) ∙ h) in rw (← q) refl
    ]

-- none is found if and only if none of the offsets has one
member_clear : (f : ℕ → ℕ) (k : ℕ) (ks : List ℕ) → first f ks ≡ none → member k ks ≡ true → f k ≡ 0
member_clear f k [] h m = no_true m
member_clear f k (x ∷ ks) h m =
    let p = first_none f x ks h in
    ⊎_elim (λ (q : k ≡ x). rw q p.0) (member_clear f k ks p.1) (member_cons k x ks m)

clear_none : (f : ℕ → ℕ) (ks : List ℕ) → ((k : ℕ) → member k ks ≡ true → f k ≡ 0) → first f ks ≡ none
clear_none f [] h = first_nil f
clear_none f (x ∷ ks) h = first_ok f x ks (h x (member_here x x ks refl)) ∙ clear_none f ks (λ k m. h k (member_there k x ks m))

-- a fault that is found is that of one of the offsets
first_found : (f : ℕ → ℕ) (ks : List ℕ) (r k : ℕ) → first f ks ≡ fault (refusal r k) → (member k ks ≡ true) × (f k ≡ r) × (1 ≤ r)
first_found f [] r k h = absurd (let z : ◌≡◌ {A = ℕ} 0 1 = cc (first_nil f) in omega arith)
first_found f (x ∷ ks) r k h =
    elim (ℕ_discrete (f x) 0) [
      | yes p ↦ let q = first_found f ks r k (sym (first_ok f x ks p) ∙ h) in (member_there k x ks q.0, q.1, q.2)
      | no p ↦
          let q : refusal (f x) x ≡ refusal r k = fault_same (sym (first_fault f x ks p) ∙ h) in
          let y : x ≡ k = ap (λ (t : Refusal). t.offset) q in
          let z : f x ≡ r = ap (λ (t : Refusal). t.number) q in
          (member_here k x ks (sym y), rw y at z, omega arith)
    ]

-- no start is less than the offset from which the starts are listed
from_least : (e : List ℕ) (i j : ℕ) → member j (starts_from e i) ≡ true → i ≤ j
from_least e =
    by_starts e (λ (i : ℕ). (j : ℕ) → member j (starts_from e i) ≡ true → i ≤ j)
    (λ i h j m. no_true (rw (from_end e i h) at m))
    (λ i h rec j m. ⊎_elim (λ (q : j ≡ i). omega arith) (λ (q : member j (starts_from e (next e i)) ≡ true). omega (arith, rec j q))
    (member_cons j i (starts_from e (next e i)) (rw (from_next e i h) at m)))

-- no lower start has a fault
abbrev ClearBefore : (ℕ → ℕ) → List ℕ → ℕ → ℕ → Type 0
ClearBefore f e i k = (j : ℕ) → j < k → member j (starts_from e i) ≡ true → f j ≡ 0

first_least : (f : ℕ → ℕ) (e : List ℕ) (r k : ℕ) (i : ℕ) → first f (starts_from e i) ≡ fault (refusal r k) → ClearBefore f e i k
first_least f e r k =
    by_starts e (λ (i : ℕ). first f (starts_from e i) ≡ fault (refusal r k) → ClearBefore f e i k)
    (λ i h p j l m. no_true (rw (from_end e i h) at m))
    (λ i h rec p j l m.
    let ks : List ℕ = starts_from e (next e i) in
    let q = rw (from_next e i h) at p in
    elim (ℕ_discrete (f i) 0) [
      | yes z ↦ ⊎_elim (λ (x : j ≡ i). rw x z) (λ (x : member j ks ≡ true). rec (sym (first_ok f i ks z) ∙ q) j l x)
          (member_cons j i ks (rw (from_next e i h) at m))
      | no z ↦
          let y : refusal (f i) i ≡ refusal r k = fault_same (sym (first_fault f i ks z) ∙ q) in
          let x : i ≡ k = ap (λ (t : Refusal). t.offset) y in
          absurd (omega (arith, from_least e i j m))
    ])

module _ (f : ℕ → ℕ) (e : List ℕ) where
  -- a pass holds if and only if no start has a fault
  pub clear_holds : (first f (starts e) ≡ none) ↔ Clear f e
  unfolding is_start
  clear_holds = (λ p k s. member_clear f k (starts e) p s, clear_none f (starts e))

  found_first : {r k : ℕ} → first f (starts e) ≡ fault (refusal r k) → FirstFault f e r k
  unfolding is_start
  found_first {r} {k} p =
      let q = first_found f (starts e) r k p in
      record { start = q.0; number = q.1; faulty = omega (arith, q.2); clear_before = λ j l. first_least f e r k 0 p j (omega arith) }

  -- there is one first fault
  one_fault : {r k s j : ℕ} → FirstFault f e r k → FirstFault f e s j → fault (refusal r k) ≡ fault (refusal s j)
  one_fault {r} {k} {s} {j} x y =
      cases k j (λ h. absurd (omega (arith, x.number, x.faulty, y.clear_before k (omega arith) x.start)))
      (λ g. cases j k (λ h. absurd (omega (arith, y.number, y.faulty, x.clear_before j (omega arith) y.start)))
      (λ h. let z : k ≡ j = omega arith in let t : r ≡ s = sym x.number ∙ rw z y.number in rw (z, t) refl))

  first_by : {r k : ℕ} (x : Fault) → first f (starts e) ≡ x → FirstFault f e r k → x ≡ fault (refusal r k)
  first_by {k = k} none p y = absurd (omega (arith, y.number, y.faulty, clear_holds.0 p k y.start))
  first_by (fault x) p y = let q = ap fault (first_plain f (starts e) x p) in q ∙ one_fault (found_first (p ∙ q)) y

  pub fault_plain : {x : Refusal} → first f (starts e) ≡ fault x → x ≡ refusal x.number x.offset
  fault_plain {x} = first_plain f (starts e) x

  -- a pass finds a fault if and only if it is the first
  pub fault_first : {r k : ℕ} → (first f (starts e) ≡ fault (refusal r k)) ↔ FirstFault f e r k
  fault_first = (found_first, first_by (first f (starts e)) refl)

-- ---- a start of an expression that decodes
neither : (a b : Bool) → (a || b) ≡ false → (a ≡ false) × (b ≡ false)
neither true b h = no_true (sym h)
neither false b h = (refl, h)

-- an instruction without a fault ends within the bytes
pub clear_fits : (e : List ℕ) (k : ℕ) → fault1 e k ≡ 0 → next e k ≤ length e
unfolding fault1
clear_fits e k h = ltb-false (length e) (next e k) (none_holds (tests1 e k) tt h).1.1.0

module _ (e : List ℕ) (k : ℕ) (d : Decodes e) (s : is_start e k ≡ true) where
  pub decodes_fits : next e k ≤ length e
  decodes_fits = clear_fits e k (d k s)

  -- its opcode is known and supported
  pub decodes_known : kind_unsupported < kind_at e k
  unfolding fault1
  decodes_known =
      let p = none_holds (tests1 e k) tt (d k s) in
      omega (arith, eqb-false (kind_at e k) 0 p.0, eqb-false (kind_at e k) 1 p.1.0)

  -- neither test of an operand holds
  operand_right : ((eqb (kind_at e k) kind_ext && eqb (operand e k) 0) ≡ false) × ((eqb (kind_at e k) kind_variable && leb variable_count (operand e k)) ≡ false)
  unfolding fault1
  operand_right = neither _ _ (none_holds (tests1 e k) tt (d k s)).1.1.1.0

  -- ext N: N is not 0
  pub decodes_ext : kind_at e k ≡ kind_ext → 1 ≤ operand e k
  decodes_ext h = omega (arith, eqb-false (operand e k) 0 (rw (eq-eqb (kind_at e k) kind_ext h) at operand_right.0))

  -- a variable is below 64
  pub decodes_variable : kind_at e k ≡ kind_variable → operand e k < 64
  decodes_variable h = omega (arith, leb-false variable_count (operand e k) (rw (eq-eqb (kind_at e k) kind_variable h) at operand_right.1))

-- ---- a jump of an expression whose jumps aim at later starts
pub aims_target : (e : List ℕ) (k : ℕ) → Aims e → is_start e k ≡ true → kind_goto ≤ kind_at e k → kind_at e k ≤ kind_if_goto
    → (is_start e (operand e k) ≡ true) × (k < operand e k)
unfolding fault2
aims_target e k a s l h =
    let p = none_holds (tests2 e k) tt (a k s) in (
      not-false (is_start e (operand e k)) (rw (le-leb kind_goto (kind_at e k) l, le-leb (kind_at e k) kind_if_goto h) at p.0),
      leb-false (operand e k) k (rw (le-leb kind_goto (kind_at e k) l, le-leb (kind_at e k) kind_if_goto h) at p.1.0),
    )
