-- Laws of counts and values as text, for the proofs of the functions of `numbers`. Assumes nothing.
use Prim.Native.Nat.{ℕ, zero, suc, ◌+◌, ◌-◌, ◌/◌, ◌%◌, ◌^◌, ◌≤◌, ◌<◌}
use native.Mathlib.Nat.{pow-le-pow_right}
use native.Mathlib.Omega.{arith}
use mathlib.Core.Bool.{Bool, true, false, cond}
use mathlib.Core.List.{List, [], ◌∷◌, ◌++◌}
use mathlib.Core.Path.{◌≡◌, refl, sym, ap, ◌∙◌}
use lib.Dec.{eqb, lit<}
use lib.ListN.{length, drop, get_or, length-append, length-drop}
use lib.Seq.{drop-drop, get_or-drop}
use borrow.Author.Tests.{eq-eqb, ne_eqb, lt-ltb, le-ltb}
use Rattle.io.specs.Digits.{last_digits, hex_digit_ascii, IsDigitCount}
use Rattle.text_buffer.specs.Text.{bytes_of}
use Rattle.logic.proofs.Promises.{cases}
use Rattle.text_buffer.specs.Decimal.{decimal}
use Rattle.text_buffer.proofs.Promises.{decimal_most, decimal_length}
use Rattle.phrases.specs.Numbers.{count_text, hex_text, significant, signed_text, other_reading, value_text}

-- ---- one, or more
pub count_one : (n : ℕ) (w : List ℕ) → n ≡ 1 → decimal n ++ bytes_of " " ++ w ≡ count_text n w
unfolding count_text
count_one n w h = rw (eq-eqb n 1 h)

pub count_more : (n : ℕ) (w : List ℕ) → (n ≡ 1 → ⊥) → decimal n ++ bytes_of " " ++ w ++ bytes_of "s" ≡ count_text n w
unfolding count_text
count_more n w h = rw (ne_eqb n 1 h)

-- ---- digits
pub digits_length : (b k v : ℕ) → length (last_digits b k v) ≡ k
digits_length b zero v = refl
digits_length b (suc k) v = length-append (last_digits b k (v / b)) (hex_digit_ascii (v % b) ∷ []) ∙ omega (arith, digits_length b k (v / b))

-- ---- 16 digits, as `io::hex` ensures them
pub spelt : (v k : ℕ) (l : List ℕ) → v < 2 ^ 64 → IsDigitCount 16 16 v k → l ≡ last_digits 16 k v → l ≡ hex_text v
unfolding hex_text
spelt v k l low w e =
    let is : k ≡ 16 = cases 16 k
    (λ g. absurd (omega (arith, low, w.2 g, pow-le-pow_right (lit< {m = 0} {n = 16} tt) {i = 16} {j = k - 1} (omega (arith, g)))))
    (λ h. omega (arith, w.0, h)) in
    e ∙ ap (λ (j : ℕ). last_digits 16 j v) is

-- ---- zeros in front
short : (l : List ℕ) → length l ≤ 1 → l ≡ significant l
unfolding significant
short [] h = refl
short (c ∷ []) h = refl
short (c ∷ d ∷ l) h = absurd (omega (arith, h))

counts_first : (l : List ℕ) → (get_or l 0 0 ≡ 48 → ⊥) → l ≡ significant l
unfolding significant
counts_first [] h = refl
counts_first (c ∷ []) h = refl
counts_first (c ∷ d ∷ l) h = rw (ne_eqb c 48 h)

zero_first : (l : List ℕ) → get_or l 0 0 ≡ 48 → 1 < length l → significant (drop 1 l) ≡ significant l
unfolding significant
zero_first [] e h = absurd (omega (arith, h))
zero_first (c ∷ []) e h = absurd (omega (arith, h))
zero_first (c ∷ d ∷ l) e h = rw (eq-eqb c 48 e)

-- n zeros are passed
pub record Skipping (l : List ℕ) (n : ℕ) : Type 0 where
  pub within : n ≤ length l
  pub same : significant (drop n l) ≡ significant l

pub skip_start : (l : List ℕ) → Skipping l 0
skip_start l = record { within = omega arith; same = refl }

front : (l : List ℕ) (n : ℕ) → get_or (drop n l) 0 0 ≡ get_or l n 0
front l n = let e : n + 0 ≡ n = omega arith in get_or-drop n l 0 0 ∙ ap (λ (j : ℕ). get_or l j 0) e

module _ {l : List ℕ} {n : ℕ} (s : Skipping l n) where
  pub skip_on : {k : ℕ} → k ≡ n → Skipping l k
  skip_on e = rw e s

  pub skip_short : length l - n ≤ 1 → drop n l ≡ significant l
  skip_short h = short (drop n l) (omega (arith, h, length-drop n l)) ∙ s.same

  pub skip_counts : (get_or l n 0 ≡ 48 → ⊥) → drop n l ≡ significant l
  skip_counts h = counts_first (drop n l) (λ e. h (sym (front l n) ∙ e)) ∙ s.same

  pub skip_zero : n < length l → (length l - n ≡ 1 → ⊥) → get_or l n 0 ≡ 48 → Skipping l (n + 1)
  skip_zero h g e =
      let long : 1 < length (drop n l) = omega (arith, length-drop n l, h, g) in
      record {
        within = omega arith;
        same = ap significant (sym (drop-drop 1 n l)) ∙ zero_first (drop n l) (front l n ∙ e) long ∙ s.same;
      }

-- ---- a signed number; the signed reading where it differs
pub signed_low : (v : ℕ) → v < 2 ^ 63 → decimal v ≡ signed_text v
unfolding signed_text
signed_low v h = rw (lt-ltb v (2 ^ 63) h)

pub signed_high : (v : ℕ) → 2 ^ 63 ≤ v → v < 2 ^ 64 → (45 ∷ []) ++ decimal (18446744073709551615 - v + 1) ≡ signed_text v
unfolding signed_text
signed_high v g h =
    let e : 18446744073709551615 - v + 1 ≡ 2 ^ 64 - v = omega arith in
    rw (le-ltb v (2 ^ 63) g) (ap (λ (x : ℕ). 45 ∷ decimal x) e)

pub reading_same : (v : ℕ) → v < 2 ^ 63 → [] ≡ other_reading v
unfolding other_reading
reading_same v h = rw (lt-ltb v (2 ^ 63) h)

pub reading_other : (v : ℕ) → 2 ^ 63 ≤ v → signed_text v ++ bytes_of ", " ≡ other_reading v
unfolding other_reading
reading_other v h = rw (le-ltb v (2 ^ 63) h)

-- ---- how long they are
either : (b : Bool) (x y : List ℕ) (n : ℕ) → length x ≤ n → length y ≤ n → length (cond b x y) ≤ n
either true x y n p q = p
either false x y n p q = q

significant_length : (l : List ℕ) → length (significant l) ≤ length l
unfolding significant
significant_length [] = omega arith
significant_length (c ∷ []) = omega arith
significant_length (c ∷ d ∷ l) = either (eqb c 48) (significant (d ∷ l)) (c ∷ d ∷ l) (length (c ∷ d ∷ l)) (omega (arith, significant_length (d ∷ l))) (omega arith)

pub count_most : (n : ℕ) (w : List ℕ) (k : ℕ) → n < 10 ^ suc k → length (count_text n w) ≤ 3 + k + length w
unfolding count_text
count_most n w k h =
    let d = decimal n in
    let m = decimal_most n k h in
    let a = length-append (d ++ bytes_of " ") w in
    let b = length-append d (bytes_of " ") in
    either (eqb n 1) (d ++ bytes_of " " ++ w) (d ++ bytes_of " " ++ w ++ bytes_of "s") (3 + k + length w)
    (omega (arith, m, a, b))
    (omega (arith, m, a, b, length-append (d ++ bytes_of " " ++ w) (bytes_of "s")))

pub signed_length : (v : ℕ) → v < 2 ^ 64 → length (signed_text v) ≤ 21
signed_length v h =
    cases v (2 ^ 63)
    (λ l. omega (arith, ap length (signed_low v l), decimal_length v h))
    (λ g. omega (arith, ap length (signed_high v g h), decimal_length (18446744073709551615 - v + 1) (omega arith)))

reading_length : (v : ℕ) → v < 2 ^ 64 → length (other_reading v) ≤ 23
reading_length v h =
    cases v (2 ^ 63)
    (λ l. omega (arith, ap length (reading_same v l)))
    (λ g. omega (arith, ap length (reading_other v g), length-append (signed_text v) (bytes_of ", "), signed_length v h))

pub value_length : (v : ℕ) → v < 2 ^ 64 → length (value_text v) ≤ 64
unfolding hex_text value_text
value_length v h =
    let d = decimal v ++ bytes_of " (" in
    let r = d ++ other_reading v in
    let x = r ++ bytes_of "0x" in
    let s = significant (hex_text v) in
    omega (
      arith,
      decimal_length v h,
      length-append (decimal v) (bytes_of " ("),
      reading_length v h,
      length-append d (other_reading v),
      length-append r (bytes_of "0x"),
      significant_length (hex_text v),
      digits_length 16 16 v,
      length-append x s,
      length-append (x ++ s) (bytes_of ")"),
    )
