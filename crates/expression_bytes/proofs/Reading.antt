-- Laws of the reading of an expression's bytes, one for each way out of the functions of src/. Assumes nothing.
use Prim.Native.Nat.{ℕ, suc, ◌+◌, ◌-◌, ◌≤◌, ◌<◌}
use native.Mathlib.Omega.{arith}
use mathlib.Core.Bool.{Bool, true, false, cond, not}
use mathlib.Core.List.{List, [], ◌∷◌}
use mathlib.Core.Path.{◌≡◌, refl, sym, ap, subst, ◌∙◌}
use Rattle.std.specs.Prelude.{Option, Some, None, Result, Ok, Err}
use Rattle.std.specs.List.{prefix_len, position_or_len, position}
use Rattle.std.specs.Result.{result_ok}
use lib.Dec.{eqb, ltb}
use lib.ListN.{length, take, drop, get_or, get_or-eq_default}
use borrow.Author.Tests.{eq-eqb, ne_eqb, leb-true, leb-false}
use Rattle.text_buffer.specs.Text.{bytes_of}
use Rattle.hexadecimal.specs.Hex.{digit_of}
use Rattle.line_words.specs.Words.{leading, Word, first_word, same_bytes, IsAt}
use Rattle.line_words.specs.Numbers.{is_digit, number_in}
use Rattle.line_words.specs.declared.Place.{Place}
use Rattle.line_words.specs.declared.numbers.NumberError.{NumberError}
use Rattle.expression_bytes.specs.declared.Front.{Front}
use Rattle.expression_bytes.specs.declared.ExpressionRead.{ExpressionRead}
use Rattle.expression_bytes.specs.Expression.{is_not_comma, bytes_start, is_list, by_number_of, length_of, word_in, read_front, start_by, read_start, ReadAt}

-- ---- the word `bytes`
module _ (t : List ℕ) (r : Place) (i : IsAt t r (first_word 0 (drop 0 t))) (b : Bool)
    (e : b ≡ same_bytes (bytes_of "bytes") (take (r.end - r.start) (drop r.start t))) where
  same : b ≡ same_bytes (bytes_of "bytes") (first_word 0 t).bytes
  same = e ∙ ap (same_bytes (bytes_of "bytes")) i.bytes_is

  pub start_behind : b ≡ true → (r.end ≡ bytes_start t) × (r.end ≤ length t)
  unfolding bytes_start
  start_behind q = (i.end_is ∙ rw (sym same ∙ q), i.within)

  pub start_none : b ≡ false → (◌≡◌ {A = ℕ} 0 (bytes_start t)) × (0 ≤ length t)
  unfolding bytes_start
  start_none q = (rw (sym same ∙ q), omega arith)

-- ---- a list of bytes with commas
module _ (w : List ℕ) (k : ℕ) where
  pub list_not : (k ≡ 2 → ⊥) → false ≡ is_list w k
  unfolding is_list
  list_not f = rw (ne_eqb k 2 f)

  pub list_short : k ≡ 2 → length w ≤ 5 → true ≡ is_list w k
  unfolding is_list is_digit digit_of
  list_short e h = rw (eq-eqb k 2 e, get_or-eq_default w 0 h)

  pub list_long : k ≡ 2 → (d : Bool) → d ≡ is_digit 16 (get_or w 5 0) → not d ≡ is_list w k
  unfolding is_list
  list_long e d q = rw (eq-eqb k 2 e, q)

-- ---- the length
comma_leading : (w : List ℕ) → position_or_len (λ c. eqb c 44) w ≡ leading is_not_comma w
comma_leading [] = refl
comma_leading (c ∷ t) = elim (eqb c 44) as (λ b. cond (not b) (1 + prefix_len (λ x. not (eqb x 44)) t) 0 ≡ cond (not b) (suc (leading is_not_comma t)) 0) [ true ↦ refl | false ↦ omega (arith, comma_leading t) ]

leading_most : (w : List ℕ) → leading is_not_comma w ≤ length w
leading_most [] = omega arith
leading_most (c ∷ t) = elim (eqb c 44) as (λ b. cond (not b) (suc (leading is_not_comma t)) 0 ≤ suc (length t)) [ true ↦ omega arith | false ↦ omega (arith, leading_most t) ]

none_if : (b : Bool) (x : ℕ) → None ≡ cond b (Some x) None → b ≡ false
none_if true x e = let z : ◌≡◌ {A = ℕ} 0 1 = cc in absurd (omega arith)
none_if false x e = refl

some_if : (b : Bool) (x k : ℕ) → Some k ≡ cond b (Some x) None → (b ≡ true) × (k ≡ x)
some_if true x k e = (refl, cc)
some_if false x k e = let z : ◌≡◌ {A = ℕ} 0 1 = cc in absurd (omega arith)

module _ (w : List ℕ) where
  pub front_end : None ≡ position (λ c. eqb c 44) w → None ≡ length_of w
  unfolding length_of
  front_end e =
      let f : ltb (position_or_len (λ c. eqb c 44) w) (length w) ≡ false = none_if (ltb (position_or_len (λ c. eqb c 44) w) (length w)) (position_or_len (λ c. eqb c 44) w) e in
      let g = leb-false (suc (position_or_len (λ c. eqb c 44) w)) (length w) f in
      rw (eq-eqb (leading is_not_comma w) (length w) (omega (arith, g, comma_leading w, leading_most w)))

  module _ (k : ℕ) (is : Some k ≡ position (λ c. eqb c 44) w) where
    pub comma_is : (k ≡ leading is_not_comma w) × (k < length w)
    comma_is =
        let f = some_if (ltb (position_or_len (λ c. eqb c 44) w) (length w)) (position_or_len (λ c. eqb c 44) w) k is in
        let g = leb-true (suc (position_or_len (λ c. eqb c 44) w)) (length w) f.0 in
        (f.1 ∙ comma_leading w, omega (arith, g, f.1))

    before_end : eqb (leading is_not_comma w) (length w) ≡ false
    before_end = ne_eqb (leading is_not_comma w) (length w) (λ z. omega (arith, z, comma_is.0, comma_is.1))

    module _ (b : Bool) (l : b ≡ is_list w k) where
      pub front_list : b ≡ true → None ≡ length_of w
      unfolding length_of
      front_list q = rw (before_end, ← comma_is.0, sym l ∙ q)

      pub front_by : b ≡ false → (n : Result ℕ NumberError) → n ≡ number_in 16 (take k w) → by_number_of k n ≡ length_of w
      unfolding length_of
      front_by q n e = rw (before_end, ← comma_is.0, sym l ∙ q) (ap (by_number_of k) e)

pub by_none : (k : ℕ) (n : Result ℕ NumberError) → None ≡ result_ok n → None ≡ by_number_of k n
by_none k (Ok v) e = let z : ◌≡◌ {A = ℕ} 0 1 = cc in absurd (omega arith)
by_none k (Err x) e = refl

pub by_some : (k v : ℕ) (n : Result ℕ NumberError) → Some v ≡ result_ok n → Some (record { value = v; characters = k + 1 }) ≡ by_number_of k n
by_some k v (Ok w) e = let h : v ≡ w = cc in ap (λ (x : ℕ). Some (record { value = x; characters = k + 1 })) h
by_some k v (Err x) e = let z : ◌≡◌ {A = ℕ} 0 1 = cc in absurd (omega arith)

-- ---- the whole reading
module _ (t : List ℕ) (from : ℕ) (s : from ≡ bytes_start t) (r : Place) (i : IsAt t r (first_word from (drop from t))) (f : Option Front)
    (e : f ≡ length_of (take (r.end - r.start) (drop r.start t))) (o : List ℕ) (x : ExpressionRead) (o' : List ℕ) where
  word_is : first_word from (drop from t) ≡ word_in t
  word_is = ap (λ (p : ℕ). first_word p (drop p t)) s

  front_is : f ≡ read_front t
  unfolding read_front
  front_is = e ∙ ap length_of (i.bytes_is ∙ ap (λ (w : Word). w.bytes) word_is)

  start_is : start_by from r.start f ≡ read_start t
  unfolding read_start
  start_is =
      ap (λ (p : ℕ). start_by p r.start f) s
      ∙ ap (λ (c : ℕ). start_by (bytes_start t) c f) (i.start_is ∙ ap (λ (w : Word). w.column) word_is)
      ∙ ap (start_by (bytes_start t) (word_in t).column) front_is

  pub read_by : ReadAt t (start_by from r.start f) f o x o' → ReadAt t (read_start t) (read_front t) o x o'
  read_by q = subst (λ (g : Option Front). ReadAt t (read_start t) g o x o') front_is (subst (λ (j : ℕ). ReadAt t j f o x o') start_is q)
