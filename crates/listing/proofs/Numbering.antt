-- A word read as a number, for the proofs of the functions of `numbers`. Assumes nothing.
use Rattle.std.specs.Prelude.{Ok, Err}
use Prim.Native.Nat.{ℕ, ◌+◌, ◌-◌, ◌^◌, ◌≤◌, ◌<◌}
use native.Mathlib.Omega.{arith}
use mathlib.Core.Bool.{Bool, true, false, cond}
use mathlib.Core.List.{List}
use mathlib.Core.Path.{◌≡◌, refl, sym, ap, ◌∙◌}
use lib.Dec.{T, ltb, leb, eqb, eqb→eq}
use lib.ListN.{drop, get_or}
use borrow.Author.Tests.{lt-ltb, le-leb, lt-leb, eq-eqb, ne_eqb, leb-true, ltb-true}
use Rattle.logic.proofs.Promises.{no_true}
use Rattle.hexadecimal.specs.Hex.{is_between, digit_of}
use Rattle.line_words.specs.Numbers.{is_digit, number_in}
use Rattle.line_words.specs.declared.numbers.NumberError.TheVariants.{Large}
use Rattle.listing.specs.Numbers.{negated, signed_number, is_width}

-- ---- a decimal digit is one of the characters from `0` to `9`
between : (a b c : ℕ) (x y : Bool) → leb a c ≡ x → leb c b ≡ y → cond x y false ≡ true → (a ≤ c) × (c ≤ b)
between a b c true true p q e = (leb-true a c p, leb-true c b q)
between a b c true false p q e = no_true e
between a b c false y p q e = no_true e

is_between_lem : (a b c : ℕ) → is_between a b c ≡ true → (a ≤ c) × (c ≤ b)
is_between_lem a b c e = between a b c (leb a c) (leb c b) refl refl e

letter : (c : ℕ) (t u : Bool) → (t ≡ true → 65 ≤ c) → (u ≡ true → 97 ≤ c) → 10 ≤ cond t (c - 55) (cond u (c - 87) 16)
letter c true u f g = omega (arith, f refl)
letter c false true f g = omega (arith, g refl)
letter c false false f g = omega arith

in_range : (c : ℕ) (t : Bool) → is_between 48 57 c ≡ t → digit_of c < 10 → (48 ≤ c) × (c ≤ 57)
unfolding digit_of
in_range c true p h = is_between_lem 48 57 c p
in_range c false p h =
    let l : 10 ≤ digit_of c = rw p (letter c (is_between 65 70 c) (is_between 97 102 c) (λ e. (is_between_lem 65 70 c e).0) (λ e. (is_between_lem 97 102 c e).0)) in
    absurd (omega arith)

pub digit_range : (c : ℕ) → is_digit 10 c ≡ true → (48 ≤ c) × (c ≤ 57)
unfolding is_digit
digit_range c e = in_range c (is_between 48 57 c) refl (ltb-true (digit_of c) 10 e)

-- ---- `negative`
module _ (d : ℕ) where
  pub negated_zero : d ≡ 0 → Err Large ≡ negated (Ok d)
  unfolding negated
  negated_zero h = rw (eq-eqb d 0 h)

  module _ (some : d ≡ 0 → ⊥) where
    pub negated_value : d ≤ 2 ^ 63 → Ok (18446744073709551615 - d + 1) ≡ negated (Ok d)
    unfolding negated
    negated_value h =
        let e : 18446744073709551615 - d + 1 ≡ 2 ^ 64 - d = omega arith in
        rw (ne_eqb d 0 some, le-leb d (2 ^ 63) h) (ap (λ (x : ℕ). Ok x) e)

    pub negated_large : 2 ^ 63 < d → Err Large ≡ negated (Ok d)
    unfolding negated
    negated_large h = rw (ne_eqb d 0 some, lt-leb d (2 ^ 63) h)

-- ---- `signed`
pub signed_minus : (w : List ℕ) → get_or w 0 0 ≡ 45 → negated (number_in 10 (drop 1 w)) ≡ signed_number w
unfolding signed_number
signed_minus w h = rw (eq-eqb (get_or w 0 0) 45 h)

pub signed_plain : (w : List ℕ) → (get_or w 0 0 ≡ 45 → ⊥) → number_in 10 w ≡ signed_number w
unfolding signed_number
signed_plain w h = rw (ne_eqb (get_or w 0 0) 45 h)

-- ---- `fits`
pub fits_at : (k v n : ℕ) → n ≡ k → ltb v (256 ^ k) ≡ ltb v (256 ^ n)
fits_at k v n h = ap (λ (j : ℕ). ltb v (256 ^ j)) (sym h)

eight : (n : ℕ) → (n ≡ 1 → ⊥) → (n ≡ 2 → ⊥) → (n ≡ 4 → ⊥) → T (is_width n) → T (eqb n 8)
unfolding is_width
eight n a b d t = rw (ne_eqb n 1 a, ne_eqb n 2 b, ne_eqb n 4 d) at t

pub fits_eight : (v n : ℕ) → T (is_width n) → ((Unit {0} × (n ≡ 1 → ⊥)) × (n ≡ 2 → ⊥)) × (n ≡ 4 → ⊥) → v < 2 ^ 64 → true ≡ ltb v (256 ^ n)
fits_eight v n t o h = sym (lt-ltb v (256 ^ 8) h) ∙ fits_at 8 v n (eqb→eq n 8 (eight n o.0.0.1 o.0.1 o.1 t))
