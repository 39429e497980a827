-- Laws of the instruction starts: which follow each other, and that none lies inside another's instruction.
use mathlib.Core.Bool.{true, false}
use mathlib.Core.List.{List, [], ◌∷◌}
use mathlib.Core.Path.{◌≡◌, refl, ap, sym, ◌∙◌}
use mathlib.Core.Logic.{⊎_elim}
use Prim.Native.Nat.{ℕ, zero, suc, ◌+◌, ◌-◌, ◌≤◌, ◌<◌}
use native.Mathlib.Omega.{arith}
use lib.ListN.{length}
use borrow.Author.Tests.{lt-ltb, le-ltb, ne_eqb}
use Rattle.logic.proofs.Promises.{cases, no_true, member_cons, member_here, member_there}
use Rattle.logic.specs.Tests.{member}
use Rattle.isa.specs.Decode.{next}
use Rattle.isa.specs.Starts.{starts_at_most, starts_from, is_start}

-- ---- the two equations of starts_from
at_end : (n : ℕ) (e : List ℕ) (i : ℕ) → length e ≤ i → starts_at_most n e i ≡ []
unfolding starts_at_most
at_end zero e i h = refl
at_end (suc n) e i h = rw (le-ltb i (length e) h, starts_at_most)

at_next : (n : ℕ) (e : List ℕ) (i : ℕ) → i < length e → starts_at_most (suc n) e i ≡ i ∷ starts_at_most n e (next e i)
unfolding starts_at_most
at_next n e i h = rw (lt-ltb i (length e) h, starts_at_most)

-- any count that is large enough gives the same
enough : (n m : ℕ) (e : List ℕ) (i : ℕ) → length e ≤ i + n → length e ≤ i + m → starts_at_most n e i ≡ starts_at_most m e i
enough zero m e i p q = let h : length e ≤ i = omega arith in at_end zero e i h ∙ sym (at_end m e i h)
enough (suc n) zero e i p q = let h : length e ≤ i = omega arith in at_end (suc n) e i h ∙ sym (at_end zero e i h)
enough (suc n) (suc m) e i p q =
    cases i (length e)
    (λ h. at_next n e i h ∙ ap (λ (l : List ℕ). i ∷ l) (enough n m e (next e i) (omega arith) (omega arith)) ∙ sym (at_next m e i h))
    (λ h. at_end (suc n) e i h ∙ sym (at_end (suc m) e i h))

pub from_end : (e : List ℕ) (i : ℕ) → length e ≤ i → starts_from e i ≡ []
unfolding starts_from
from_end e i h = at_end (length e - i) e i h

pub from_next : (e : List ℕ) (i : ℕ) → i < length e → starts_from e i ≡ i ∷ starts_from e (next e i)
unfolding starts_from
from_next e i h =
    enough (length e - i) (suc (length e - (i + 1))) e i (omega arith) (omega arith)
    ∙ at_next (length e - (i + 1)) e i h
    ∙ ap (λ (l : List ℕ). i ∷ l) (enough (length e - (i + 1)) (length e - next e i) e (next e i) (omega arith) (omega arith))

-- induction from the last offset to the first, by instructions
pub by_starts {ℓ} : (e : List ℕ) (P : ℕ → Type ℓ) → ((i : ℕ) → length e ≤ i → P i) → ((i : ℕ) → i < length e → P (next e i) → P i) → (i : ℕ) → P i
by_starts e P last more i = go (length e) i (omega arith)
  where
    go : (n : ℕ) (j : ℕ) → length e ≤ j + n → P j
    go zero j h = last j (omega arith)
    go (suc n) j h = cases j (length e) (λ p. more j p (go n (next e j) (omega arith))) (λ p. last j p)

module _ (e : List ℕ) where
  -- the starts from i on are at i or after, and within the bytes
  from_range : (k i : ℕ) → member k (starts_from e i) ≡ true → (i ≤ k) × (k < length e)
  from_range k =
      by_starts e (λ (i : ℕ). member k (starts_from e i) ≡ true → (i ≤ k) × (k < length e))
      (λ i h m. no_true (rw (from_end e i h) at m))
      (λ i h r m. ⊎_elim (λ (p : k ≡ i). (omega arith, omega arith)) (λ n. let q = r n in (omega arith, omega arith))
      (member_cons k i (starts_from e (next e i)) (rw (from_next e i h) at m)))

  -- after a start comes the next one
  from_then : (k : ℕ) → next e k < length e → (i : ℕ) → member k (starts_from e i) ≡ true → member (next e k) (starts_from e i) ≡ true
  from_then k l =
      by_starts e (λ (i : ℕ). member k (starts_from e i) ≡ true → member (next e k) (starts_from e i) ≡ true)
      (λ i h m. no_true (rw (from_end e i h) at m))
      (λ i h r m. rw (from_next e i h) (member_there (next e k) i (starts_from e (next e i))
      (⊎_elim
      (λ (p : k ≡ i). rw (← p, from_next e (next e k) l) (member_here (next e k) (next e k) (starts_from e (next e (next e k))) refl))
      r (member_cons k i (starts_from e (next e i)) (rw (from_next e i h) at m)))))

  -- no start lies inside an instruction
  from_apart : (i k : ℕ) → k < next e i → (b : ℕ) → member i (starts_from e b) ≡ true → member k (starts_from e b) ≡ true → k ≤ i
  from_apart i k l =
      by_starts e (λ (b : ℕ). member i (starts_from e b) ≡ true → member k (starts_from e b) ≡ true → k ≤ i)
      (λ b h m n. no_true (rw (from_end e b h) at m))
      (λ b h r m n.
      ⊎_elim
      (λ (p : i ≡ b).
      ⊎_elim (λ (q : k ≡ b). omega arith)
      (λ q. let z = from_range k (next e b) q in let y : next e i ≡ next e b = ap (next e) p in absurd (omega arith))
      (member_cons k b (starts_from e (next e b)) (rw (from_next e b h) at n)))
      (λ p.
      ⊎_elim (λ (q : k ≡ b). let z = from_range i (next e b) p in omega arith)
      (λ q. r p q)
      (member_cons k b (starts_from e (next e b)) (rw (from_next e b h) at n)))
      (member_cons i b (starts_from e (next e b)) (rw (from_next e b h) at m)))

  pub start_in : (k : ℕ) → is_start e k ≡ true → k < length e
  unfolding is_start
  start_in k s = (from_range k 0 s).1

  pub start_next : (k : ℕ) → is_start e k ≡ true → next e k < length e → is_start e (next e k) ≡ true
  unfolding is_start
  start_next k s l = from_then k l 0 s

  start_apart : (i k : ℕ) → is_start e i ≡ true → is_start e k ≡ true → k < next e i → k ≤ i
  unfolding is_start
  start_apart i k s t l = from_apart i k l 0 s t

  -- what holds of the starts before the start i, and of i, holds of those before the next
  pub before_next : (P : ℕ → Type 0) (i : ℕ) → is_start e i ≡ true → ((k : ℕ) → k < i → is_start e k ≡ true → P k) → P i
      → (k : ℕ) → k < next e i → is_start e k ≡ true → P k
  before_next P i s b p k h t = cases k i (λ q. b k q t) (λ q. let z : i ≡ k = omega (arith, start_apart i k s t h) in rw z at p)

  pub start_zero : 0 < length e → is_start e 0 ≡ true
  unfolding is_start
  start_zero h = rw (from_next e 0 h) (member_here 0 0 (starts_from e (next e 0)) refl)

  -- no start lies past the end
  from_below : (k : ℕ) → length e ≤ k → (i : ℕ) → member k (starts_from e i) ≡ false
  from_below k p =
      by_starts e (λ (i : ℕ). member k (starts_from e i) ≡ false)
      (λ i h. rw (from_end e i h))
      (λ i h r. rw (from_next e i h, ne_eqb k i (omega arith)) r)

  pub start_below : (k : ℕ) → length e ≤ k → is_start e k ≡ false
  unfolding is_start
  start_below k p = from_below k p 0
