-- A word read as a number, in any base. Assumes nothing.
use Prim.Native.Nat.{ℕ, zero, suc, ◌+◌, ◌*◌, ◌^◌, ◌≤◌, ◌<◌}
use native.Mathlib.Nat.{le-mul_of_pos_right}
use native.Mathlib.Numerals.{add-one}
use native.Mathlib.Decide.{dec_lt}
use native.Mathlib.Omega.{arith}
use mathlib.Core.Bool.{Bool, true, false, cond, ◌&&◌}
use mathlib.Core.List.{List, [], ◌∷◌}
use mathlib.Core.Path.{◌≡◌, refl, sym, ap, ◌∙◌}
use Rattle.line_words.proofs.Leading.{leading_within}
use Rattle.std.specs.List.{list_all}
use Rattle.std.specs.Cmp.Lexicographic.{pointwise}
use Rattle.std.specs.Prelude.{Some, None, Result, Ok, Err}
use Rattle.hexadecimal.specs.Told.{digit_told}
use lib.Dec.{ltb, eqb, lit<}
use lib.ListN.{length, take, drop, get_or, drop_of_length-le}
use lib.Seq.{drop-cons}
use borrow.Author.Tests.{lt-ltb, le-ltb, eq-eqb, ne_eqb, le-leb}
use Rattle.hexadecimal.specs.Hex.{digit_of}
use Rattle.line_words.specs.Words.{leading}
use Rattle.line_words.specs.Numbers.{is_digit, value_from, base_of, limited, number_in, is_hexadecimal, word_number}
use Rattle.line_words.specs.declared.numbers.NumberError.{NumberError}
use Rattle.line_words.specs.declared.numbers.NumberError.TheVariants.{Large, Not}
use Rattle.line_words.specs.declared.numbers.Base.{Base}
use Rattle.line_words.specs.declared.numbers.Base.TheVariants.{Decimal, Hexadecimal}

-- ---- the loop of `value`: n digits of the text s are read, and their value is v
pub value_least : (base : ℕ) → 0 < base → (v : ℕ) (l : List ℕ) → v ≤ value_from base v l
unfolding value_from
value_least base p v [] = omega arith
value_least base p v (c ∷ l) = omega (arith, le-mul_of_pos_right v p, value_least base p (v * base + digit_of c) l)

pub record Valuing (base : ℕ) (s : List ℕ) (v n : ℕ) : Type 0 where
  pub within : n ≤ length s
  pub low : v < 2 ^ 64
  pub rest : value_from base 0 s ≡ value_from base v (drop n s)

pub valuing_start : (base : ℕ) (s : List ℕ) → Valuing base s 0 0
valuing_start base s = record { within = omega arith; low = lit< tt; rest = refl }

limited_large : (v : ℕ) → 2 ^ 64 ≤ v → Err Large ≡ limited v
limited_large v h = rw (le-ltb v (2 ^ 64) h)

pub limited_value : (v : ℕ) → v < 2 ^ 64 → Ok v ≡ limited v
limited_value v h = rw (lt-ltb v (2 ^ 64) h)

-- ---- a digit of a base
both_left : (a b : Bool) → a && b ≡ true → a ≡ true
both_left true b e = refl
both_left false b e = e

both_right : (a b : Bool) → a && b ≡ true → b ≡ true
both_right true b e = e
both_right false b e = let z : ◌≡◌ {A = ℕ} 0 1 = cc in absurd (omega arith)

some_chosen : (b : Bool) (x d : ℕ) → Some d ≡ cond b None (Some x) → d ≡ x
some_chosen true x d e = let z : ◌≡◌ {A = ℕ} 0 1 = cc in absurd (omega arith)
some_chosen false x d e = cc

pub some_told : (c : ℕ) {d : ℕ} → Some d ≡ digit_told c → d ≡ digit_of c
some_told c {d} e = some_chosen (ltb 15 (digit_of c)) (digit_of c) d e

none_chosen : (b : Bool) (x : ℕ) → None ≡ cond b None (Some x) → b ≡ true
none_chosen true x e = refl
none_chosen false x e = let z : ◌≡◌ {A = ℕ} 0 1 = cc in absurd (omega arith)

none_told : (c : ℕ) → None ≡ digit_told c → 15 < digit_of c
none_told c e =
    let h : ltb 15 (digit_of c) ≡ true = none_chosen (ltb 15 (digit_of c)) (digit_of c) e in
    elim (dec_lt 15 (digit_of c)) [
      | yes l ↦ l
      | no l ↦ (let k : ltb 15 (digit_of c) ≡ false = le-ltb 15 (digit_of c) (omega arith) in let z : ◌≡◌ {A = ℕ} 0 1 = cc in absurd (omega arith))
    ]

pub digit_of_base : (b : Base) (c : ℕ) {d : ℕ} → Some d ≡ digit_told c → ltb d (base_of b) ≡ is_digit (base_of b) c
unfolding is_digit
digit_of_base b c e = ap (λ (x : ℕ). ltb x (base_of b)) (some_told c e)

base_most : (b : Base) → base_of b ≤ 16
base_most Decimal = omega arith
base_most Hexadecimal = omega arith

pub base_some : (b : Base) → 0 < base_of b
base_some Decimal = omega arith
base_some Hexadecimal = omega arith

whole_here : (p : ℕ → Bool) (s : List ℕ) (n : ℕ) → list_all p s ≡ true → n < length s → p (get_or s n 0) ≡ true
whole_here p [] n h l = absurd (omega (arith, l))
whole_here p (c ∷ t) zero h l = both_left (p c) (list_all p t) h
whole_here p (c ∷ t) (suc n) h l = whole_here p t n (both_right (p c) (list_all p t) h) (omega (arith, l))

pub no_digit : (b : Base) (c : ℕ) → None ≡ digit_told c → false ≡ is_digit (base_of b) c
unfolding is_digit
no_digit b c e = sym (le-ltb (digit_of c) (base_of b) (omega (arith, none_told c e, base_most b)))

pub never : (b : Base) (s : List ℕ) (n : ℕ) → list_all (is_digit (base_of b)) s ≡ true → n < length s → None ≡ digit_told (get_or s n 0) → ⊥
never b s n h l e =
    let x : false ≡ is_digit (base_of b) (get_or s n 0) = no_digit b (get_or s n 0) e in
    let y : is_digit (base_of b) (get_or s n 0) ≡ true = whole_here (is_digit (base_of b)) s n h l in
    let z : ◌≡◌ {A = ℕ} 0 1 = cc in
    omega (arith, z)

module _ {base : ℕ} {s : List ℕ} {v n : ℕ} (c : Valuing base s v n) where
  pub valuing_end : length s ≤ n → Ok v ≡ limited (value_from base 0 s)
  unfolding value_from
  valuing_end h = limited_value v c.low ∙ ap limited (sym (c.rest ∙ ap (value_from base v) (drop_of_length-le s h)))

  module _ (more : n < length s) (x : ℕ) (is : x ≡ digit_of (get_or s n 0)) where
    step : value_from base 0 s ≡ value_from base (v * base + x) (drop (n + 1) s)
    unfolding value_from
    step =
        let t : drop n s ≡ get_or s n 0 ∷ drop (n + 1) s = rw (add-one, drop-cons s n 0) in
        c.rest ∙ ap (value_from base v) t ∙ ap (λ (d : ℕ). value_from base (v * base + d) (drop (n + 1) s)) (sym is)

    pub valuing_more : v * base + x < 2 ^ 64 → Valuing base s (v * base + x) (n + 1)
    valuing_more h = record { within = omega arith; low = h; rest = step }

    pub valuing_large : 0 < base → 2 ^ 64 ≤ v * base + x → Err Large ≡ limited (value_from base 0 s)
    valuing_large pos h = limited_large (value_from base 0 s) (omega (arith, h, step, value_least base pos (v * base + x) (drop (n + 1) s)))

-- ---- `unsigned`: digits only, or not
leading_whole : (p : ℕ → Bool) (s : List ℕ) → list_all p s ≡ true → leading p s ≡ length s
leading_whole p [] h = refl
leading_whole p (c ∷ t) h = elim (p c) as (λ b. b && list_all p t ≡ true → cond b (suc (leading p t)) 0 ≡ suc (length t)) [
  | true ↦ λ h. ap suc (leading_whole p t h)
  | false ↦ λ h. (let z : ◌≡◌ {A = ℕ} 0 1 = cc in absurd (omega arith))
] h

leading_part : (p : ℕ → Bool) (s : List ℕ) → list_all p s ≡ false → leading p s < length s
leading_part p [] h = let z : ◌≡◌ {A = ℕ} 0 1 = cc in absurd (omega arith)
leading_part p (c ∷ t) h = elim (p c) as (λ b. b && list_all p t ≡ false → cond b (suc (leading p t)) 0 < suc (length t)) [
  | true ↦ λ h. omega (arith, leading_part p t h)
  | false ↦ λ h. omega arith
] h

module _ (base : ℕ) (w : List ℕ) where
  pub unsigned_none : length w ≡ 0 → Err Not ≡ number_in base w
  unfolding number_in
  unsigned_none h = rw (eq-eqb (leading (is_digit base) w) 0 (omega (arith, leading_within (is_digit base) w)))

  pub unsigned_other : list_all (is_digit base) w ≡ false → Err Not ≡ number_in base w
  unfolding number_in
  unsigned_other h =
      rw (lt-ltb (leading (is_digit base) w) (length w) (leading_part (is_digit base) w h))
      (elim (eqb (leading (is_digit base) w) 0) as (λ b. ◌≡◌ {A = Result ℕ NumberError} (Err Not) (cond b (Err Not) (Err Not))) [ true ↦ refl | false ↦ refl ])

  pub unsigned_whole : (length w ≡ 0 → ⊥) → leading (is_digit base) w ≡ length w → limited (value_from base 0 w) ≡ number_in base w
  unfolding number_in
  unsigned_whole some l =
      rw (ne_eqb (leading (is_digit base) w) 0 (λ z. some (sym l ∙ z)), le-ltb (leading (is_digit base) w) (length w) (omega (arith, l)))

  pub unsigned_all : (length w ≡ 0 → ⊥) → list_all (is_digit base) w ≡ true → limited (value_from base 0 w) ≡ number_in base w
  unsigned_all some h = unsigned_whole some (leading_whole (is_digit base) w h)

-- ---- `0x` in front, or not
prefix_tested : (w : List ℕ) → pointwise eqb (take 2 w) (48 ∷ 120 ∷ []) ≡ is_hexadecimal w
unfolding is_hexadecimal
prefix_tested [] = refl
prefix_tested (c ∷ []) = elim (eqb c 48) as (λ b. b && false ≡ false) [ true ↦ refl | false ↦ refl ]
prefix_tested (c ∷ d ∷ t) =
    rw (le-leb 2 (suc (suc (length t))) (omega arith))
    (ap (λ (b : Bool). eqb c 48 && b) (elim (eqb d 120) as (λ b. b && true ≡ b) [ true ↦ refl | false ↦ refl ]))

module _ (w : List ℕ) (b : Bool) (e : pointwise eqb (take 2 w) (48 ∷ 120 ∷ []) ≡ b) where
  pub number_hexadecimal : b ≡ true → number_in 16 (drop 2 w) ≡ word_number w
  unfolding word_number
  number_hexadecimal t = rw (sym (prefix_tested w) ∙ e ∙ t)

  pub number_decimal : b ≡ false → number_in 10 w ≡ word_number w
  unfolding word_number
  number_decimal f = rw (sym (prefix_tested w) ∙ e ∙ f)
