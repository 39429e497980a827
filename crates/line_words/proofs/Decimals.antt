-- A number in decimal is read as that number. Assumes nothing.
use Prim.Native.Nat.{ℕ, zero, suc, ◌+◌, ◌*◌, ◌/◌, ◌%◌, ◌^◌, ◌<◌}
use native.Mathlib.Nat.{not-suc-le-zero, mod-lt, div-add-mod'}
use native.Mathlib.Omega.{arith}
use mathlib.Core.Bool.{true}
use mathlib.Core.List.{List, [], ◌∷◌, ◌++◌, append-nil}
use mathlib.Core.Path.{◌≡◌, refl, sym, ap, ◌∙◌}
use lib.Dec.{T, lit<}
use lib.ListN.{length}
use borrow.Author.Tests.{lt-ltb, le-leb}
use Rattle.logic.proofs.Promises.{cases}
use Rattle.hexadecimal.specs.Hex.{digit_of}
use Rattle.text_buffer.specs.Decimal.{decimal_by, decimal}
use Rattle.text_buffer.proofs.Promises.{one_digit, more_digits, decimal_some}
use Rattle.line_words.specs.Words.{leading}
use Rattle.line_words.specs.Numbers.{is_digit, value_from, limited, number_in}
use Rattle.std.specs.Prelude.{Ok}
use Rattle.line_words.proofs.Leading.{all, both, all_append, all_leading}
use Rattle.line_words.proofs.Numbering.{limited_value, unsigned_whole}

-- ---- its value
value_append : (v : ℕ) (a b : List ℕ) → value_from 10 v (a ++ b) ≡ value_from 10 (value_from 10 v a) b
unfolding value_from
value_append v [] b = refl
value_append v (c ∷ a) b = value_append (v * 10 + digit_of c) a b

digit_value : (d : ℕ) → d < 10 → digit_of (48 + d) ≡ d
unfolding digit_of
digit_value d h = rw (le-leb 48 (48 + d) (omega arith), le-leb (48 + d) 57 (omega arith)) (omega arith)

value_last : (v d : ℕ) → d < 10 → value_from 10 v ((48 + d) ∷ []) ≡ v * 10 + d
unfolding value_from
value_last v d h = ap (λ (x : ℕ). v * 10 + x) (digit_value d h)

value_by : (f n : ℕ) → n < f → value_from 10 0 (decimal_by f n) ≡ n
value_by zero n h = absurd (not-suc-le-zero h)
value_by (suc f) n h =
    cases n 10
    (λ l. ap (value_from 10 0) (one_digit f n l) ∙ value_last 0 n l ∙ omega arith)
    (λ g.
    let q = div-add-mod' n 10 in
    ap (value_from 10 0) (more_digits f n g)
    ∙ value_append 0 (decimal_by f (n / 10)) ((48 + n % 10) ∷ [])
    ∙ value_last (value_from 10 0 (decimal_by f (n / 10))) (n % 10) (mod-lt n (lit< tt))
    ∙ ap (λ (x : ℕ). x * 10 + n % 10) (value_by f (n / 10) (omega (arith, q)))
    ∙ q)

decimal_value : (n : ℕ) → value_from 10 0 (decimal n) ≡ n
unfolding decimal
decimal_value n = value_by (n + 1) n (omega arith)

-- ---- it is digits
digit_is : (d : ℕ) → d < 10 → T (is_digit 10 (48 + d))
unfolding is_digit
digit_is d h = rw (digit_value d h, lt-ltb d 10 h) tt

one : (c : ℕ) → T (is_digit 10 c) → T (all (is_digit 10) (c ∷ []))
one c t = both (is_digit 10 c) true t tt

digits_by : (f n : ℕ) → T (all (is_digit 10) (decimal_by f n))
unfolding decimal_by
digits_by zero n = tt
digits_by (suc f) n =
    cases n 10
    (λ l. rw (one_digit f n l) (one (48 + n) (digit_is n l)))
    (λ g.
    rw (more_digits f n g)
    (all_append (is_digit 10) (decimal_by f (n / 10)) ((48 + n % 10) ∷ []) (digits_by f (n / 10)) (one (48 + n % 10) (digit_is (n % 10) (mod-lt n (lit< tt))))))

pub decimal_digits : (n : ℕ) → T (all (is_digit 10) (decimal n))
unfolding decimal
decimal_digits n = digits_by (n + 1) n

-- ---- a word of 64 bits is read back
pub decimal_back : (n : ℕ) → n < 2 ^ 64 → number_in 10 (decimal n) ≡ Ok n
decimal_back n h =
    let w = decimal n in
    let l : leading (is_digit 10) w ≡ length w = ap (leading (is_digit 10)) (sym (append-nil w)) ∙ all_leading (is_digit 10) w [] (decimal_digits n) tt in
    sym (unsigned_whole 10 w (λ z. omega (arith, z, decimal_some n)) l) ∙ ap limited (decimal_value n) ∙ sym (limited_value n h)
