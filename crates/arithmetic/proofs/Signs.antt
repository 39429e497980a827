-- Signed numbers by the top bit of their words, and the operators on them. The code computes with signed integers,
-- which the logic reads back from their words: `signed (word x)`.
use Rattle.std.proofs.Common.{◌≡◌, ℕ, zero, suc, ◌-◌, ◌/◌, ◌^◌, ◌<◌, ◌≤◌, Bool, true, false, ℤ, pos, negsuc, neg_ℤ, sym, refl, ap, ◌∙◌, subst, div-le_self, arith, w64, Fits, le-ltb, lt-ltb}
use Rattle.std.specs.Int.{from_bool}
use native.Mathlib.Nat.{div-lt_self}
use native.Mathlib.Decide.{dec_lt}
use lib.Signed.{mag, mag_rem, quot_z, rem_z, lt_z}
use mir.Val.{sel}
use mir.ValLaws.{of_z-to_z}
use Rattle.arithmetic.specs.Words.{signed, word, div_signed, rem_signed, truth, less_signed}

-- ---- a word by its top bit
module _ (a : ℕ) where
  pub low : a < 2 ^ 63 → signed a ≡ pos a
  low h = ap (λ (t : Bool). sel t (pos a) (negsuc (2 ^ 64 - suc a))) (lt-ltb a (2 ^ 63) h)

  pub high : 2 ^ 63 ≤ a → signed a ≡ negsuc (2 ^ 64 - suc a)
  high h = ap (λ (t : Bool). sel t (pos a) (negsuc (2 ^ 64 - suc a))) (le-ltb a (2 ^ 63) h)

  -- what holds of the number in either case holds of it
  pub by_sign {ℓ} : (P : ℤ → Type ℓ) → (a < 2 ^ 63 → P (pos a)) → (2 ^ 63 ≤ a → P (negsuc (2 ^ 64 - suc a))) → P (signed a)
  by_sign P f g =
      elim (dec_lt a (2 ^ 63)) [
        | yes h ↦ subst P (sym (low h)) (f h)
        | no h ↦ let l : 2 ^ 63 ≤ a = omega arith in subst P (sym (high l)) (g l)
      ]

-- ---- a truth value as a number
pub truth_of : (t : Bool) → from_bool t ≡ truth t
truth_of true = refl
truth_of false = refl

-- ---- a signed number whose magnitude is small enough has a word
pub word_below : (z : ℤ) → mag z < 2 ^ 64 → word z < 2 ^ 64
word_below (pos n) h = h
word_below (negsuc n) h = omega arith

-- the magnitude of a word's signed number
pub mag_below : (a : ℕ) → a < 2 ^ 64 → mag (signed a) < 2 ^ 63
mag_below a h = by_sign a (λ z. mag z < 2 ^ 63) (λ l. l) (λ l. omega arith)

-- ---- the quotient and the remainder
mag_negated : (n : ℕ) → mag (neg_ℤ (pos n)) ≤ n - 1
mag_negated zero = omega arith
mag_negated (suc n) = omega arith

-- by -1 a quotient can be out of range by one, and by no other divisor
pub mag_quot : (x y : ℤ) {m : ℕ} → mag x ≤ m → (y ≡ negsuc 0 → suc (mag x) ≤ m) → mag (quot_z x y) ≤ m
mag_quot (pos a) (pos b) h k = omega (arith, div-le_self a b)
mag_quot (pos a) (negsuc b) h k = omega (arith, div-le_self a (suc b), mag_negated (a / suc b))
mag_quot (negsuc a) (pos b) h k = omega (arith, div-le_self (suc a) b, mag_negated (suc a / b))
mag_quot (negsuc a) (negsuc zero) h k = omega (arith, k refl)
mag_quot (negsuc a) (negsuc (suc b)) h k = let l : suc a / suc (suc b) < suc a = div-lt_self (omega arith) (omega arith) in omega arith

module _ (a b : ℕ) (h : a < 2 ^ 64) where
  pub div_signed_below : div_signed a b < 2 ^ 64
  unfolding div_signed
  div_signed_below = word_below (quot_z (signed a) (signed b)) (omega (arith, mag_quot (signed a) (signed b) {m = 2 ^ 63} (omega (arith, mag_below a h)) (λ e. mag_below a h)))

  pub rem_signed_below : rem_signed a b < 2 ^ 64
  unfolding rem_signed
  rem_signed_below = word_below (rem_z (signed a) (signed b)) (omega (arith, mag_rem (signed a) (signed b), mag_below a h))

settled : (n : ℕ) → n < 2 ^ 64 → word (signed n) ≡ n
settled n h = of_z-to_z w64 n (record { fits = h })

-- x and y are the operands as signed integers
module _ {a b : ℕ} (h : Fits w64 a) (k : Fits w64 b) {x y : ℤ} (p : x ≡ signed a) (q : y ≡ signed b) where
  as_a : word x ≡ a
  as_a = ap word p ∙ of_z-to_z w64 a h

  as_b : word y ≡ b
  as_b = ap word q ∙ of_z-to_z w64 b k

  pub divisible : 0 < b → 0 < word y
  divisible g = rw as_b g

  pub quotient : {z : ℤ} → z ≡ signed (word (quot_z (signed (word x)) (signed (word y)))) → word (signed (word z)) ≡ div_signed a b
  unfolding div_signed
  quotient e =
      let d = div_signed a b in
      let l : word (signed d) ≡ d = settled d (div_signed_below a b h.fits) in
      ap (λ (v : ℤ). word (signed (word v))) (e ∙ λ i. signed (word (quot_z (signed (as_a i)) (signed (as_b i)))))
      ∙ ap (λ (n : ℕ). word (signed n)) l
      ∙ l

  pub remainder : {z : ℤ} → z ≡ rem_z (signed (word x)) (signed (word y)) → word (signed (word z)) ≡ rem_signed a b
  unfolding rem_signed
  remainder e =
      ap (λ (v : ℤ). word (signed (word v))) (e ∙ λ i. rem_z (signed (as_a i)) (signed (as_b i)))
      ∙ settled (rem_signed a b) (rem_signed_below a b h.fits)

  pub less : from_bool (lt_z (signed (word x)) (signed (word y))) ≡ less_signed a b
  unfolding less_signed
  less = (λ i. from_bool (lt_z (signed (as_a i)) (signed (as_b i)))) ∙ truth_of (lt_z (signed a) (signed b))
