-- Decimal text: how many digits a number has, and that they are those that `io::decimal` ensures. Assumes nothing.
use Prim.Native.Nat.{ℕ, zero, suc, ◌+◌, ◌-◌, ◌/◌, ◌%◌, ◌^◌, ◌≤◌, ◌<◌}
use native.Mathlib.Nat.{not-suc-le-zero, mod-lt, div-add-mod', pow-zero, pow-suc}
use native.Mathlib.Numerals.{add-one}
use native.Mathlib.Omega.{arith}
use mathlib.Core.List.{List, [], ◌∷◌, ◌++◌}
use mathlib.Core.Path.{◌≡◌, sym, ap, ◌∙◌}
use lib.Dec.{lit<}
use lib.ListN.{length, length-append}
use borrow.Author.Tests.{lt-ltb, le-ltb}
use Rattle.io.specs.Digits.{last_digits, IsDigitCount, hex_digit_ascii}
use Rattle.logic.proofs.Promises.{cases}
use Rattle.text_buffer.specs.Decimal.{decimal_by, decimal}

-- ---- one digit, or the digits before the last and the last
module _ (f n : ℕ) where
  pub one_digit : n < 10 → decimal_by (suc f) n ≡ (48 + n) ∷ []
  unfolding decimal_by
  one_digit h = rw (lt-ltb n 10 h)

  pub more_digits : 10 ≤ n → decimal_by (suc f) n ≡ decimal_by f (n / 10) ++ ((48 + n % 10) ∷ [])
  unfolding decimal_by
  more_digits h = rw (le-ltb n 10 h)

-- ---- how many there are
some_by : (f n : ℕ) → 0 < length (decimal_by (suc f) n)
some_by f n =
    cases n 10
    (λ l. rw (one_digit f n l) (lit< tt))
    (λ g. rw (more_digits f n g, length-append (decimal_by f (n / 10)) ((48 + n % 10) ∷ [])) (omega arith))

pub decimal_some : (n : ℕ) → 0 < length (decimal n)
unfolding decimal
decimal_some n = rw (add-one n) (some_by n n)

pos : (k : ℕ) → 0 < 10 ^ k
pos zero = rw (pow-zero 10) (lit< tt)
pos (suc k) = omega (arith, pos k, pow-suc 10 k)

most_by : (f n k : ℕ) → n < 10 ^ suc k → length (decimal_by f n) ≤ suc k
unfolding decimal_by
most_by zero n k h = omega arith
most_by (suc f) n zero h = rw (one_digit f n (omega (arith, h, pow-suc 10 0, pow-zero 10))) (omega arith)
most_by (suc f) n (suc k) h =
    cases n 10
    (λ l. rw (one_digit f n l) (omega arith))
    (λ g.
    let i = most_by f (n / 10) k (omega (arith, h, pow-suc 10 (suc k), div-add-mod' n 10)) in
    rw (more_digits f n g, length-append (decimal_by f (n / 10)) ((48 + n % 10) ∷ [])) (omega (arith, i)))

pub decimal_most : (n k : ℕ) → n < 10 ^ suc k → length (decimal n) ≤ suc k
unfolding decimal
decimal_most n k h = most_by (n + 1) n k h

least_by : (f n k : ℕ) → n < f → 10 ^ k ≤ n → k < length (decimal_by f n)
least_by zero n k l h = absurd (not-suc-le-zero l)
least_by (suc f) n zero l h = some_by f n
least_by (suc f) n (suc k) l h =
    let q = div-add-mod' n 10 in
    let s = pow-suc 10 k in
    let r : n % 10 < 10 = mod-lt n (lit< tt) in
    let m : 10 ≤ n = omega (arith, h, s, pos k) in
    let i = least_by f (n / 10) k (omega (arith, q)) (omega (arith, q, h, s, r)) in
    rw (more_digits f n m, length-append (decimal_by f (n / 10)) ((48 + n % 10) ∷ [])) (omega (arith, i))

pub decimal_least : (n k : ℕ) → 10 ^ k ≤ n → k < length (decimal n)
unfolding decimal
decimal_least n k h = least_by (n + 1) n k (omega arith) h

-- ---- the fewest digits of the library are these
glyph_is : (d : ℕ) → d < 10 → hex_digit_ascii d ≡ 48 + d
glyph_is d h = rw (lt-ltb d 10 h)

fewest_by : (f k n : ℕ) → n < f → IsDigitCount 10 1 n (suc k) → last_digits 10 (suc k) n ≡ decimal_by f n
fewest_by zero k n h w = absurd (not-suc-le-zero h)
fewest_by (suc f) zero n h w =
    let l : n < 10 = omega (arith, w.1, pow-suc 10 0, pow-zero 10) in
    let e : n % 10 ≡ n = omega (arith, div-add-mod' n 10) in
    ap (λ (x : ℕ). hex_digit_ascii x ∷ []) e ∙ ap (λ (x : ℕ). x ∷ []) (glyph_is n l) ∙ sym (one_digit f n l)
fewest_by (suc f) (suc k) n h w =
    let o : suc (suc k) - 1 ≡ suc k = omega arith in
    let g : 10 ^ suc k ≤ n = rw o at (w.2 (omega arith)) in
    let q = div-add-mod' n 10 in
    let s = pow-suc 10 k in
    let t = pow-suc 10 (suc k) in
    let p : 0 < 10 ^ k = pos k in
    let m : 10 ≤ n = omega (arith, g, s, p) in
    let r : n % 10 < 10 = mod-lt n (lit< tt) in
    let z : 10 ^ (suc k - 1) ≡ 10 ^ k = ap (λ (j : ℕ). 10 ^ j) (omega arith) in
    let i = fewest_by f k (n / 10) (omega (arith, q)) (omega arith, omega (arith, q, w.1, t), λ u. omega (arith, q, g, s, r, z)) in
    ap (λ (a : List ℕ). a ++ (hex_digit_ascii (n % 10) ∷ [])) i ∙ ap (λ (x : ℕ). decimal_by f (n / 10) ++ (x ∷ [])) (glyph_is (n % 10) r) ∙ sym (more_digits f n m)

pub fewest_decimal : (k n : ℕ) → IsDigitCount 10 1 n k → last_digits 10 k n ≡ decimal n
unfolding decimal
fewest_decimal zero n w = absurd (omega (arith, w.0))
fewest_decimal (suc k) n w = fewest_by (n + 1) k n (omega arith) w
