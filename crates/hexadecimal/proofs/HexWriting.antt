-- Laws of bytes written in hexadecimal, for the proofs of the functions of `hex`, and that they are read back. Assumes
-- nothing.
use Prim.Native.Nat.{ℕ, zero, suc, ◌+◌, ◌-◌, ◌/◌, ◌%◌, ◌≤◌, ◌<◌}
use native.Mathlib.Nat.{mod-lt, div-add-mod', pow-le-pow_right}
use native.Mathlib.Omega.{arith}
use native.Mathlib.Numerals.{add-one}
use native.Mathlib.Decide.{dec_lt}
use mathlib.Core.Bool.{Bool, true, false, ◌&&◌}
use mathlib.Core.Path.{◌≡◌, refl, sym, ap, subst, ◌∙◌}
use mathlib.Core.List.{List, [], ◌∷◌, ◌++◌}
use lib.Dec.{eqb, lit<}
use lib.ListN.{length, take, get_or}
use lib.Seq.{take-suc, take_all}
use borrow.Author.Tests.{lt-ltb, le-ltb, ne_eqb}
use Rattle.io.specs.Digits.{hex_digit_ascii, last_digits, IsDigitCount}
use Rattle.encoding.specs.Ranges.{AllBytes}
use Rattle.hexadecimal.specs.Hex.{is_blank, is_separator, digit_of, after_high, digits_of, is_prefixed, token_of, whole, with_bytes, read_past_of, read_from, pair_of, hex_of, Byte}
use Rattle.text_buffer.specs.Text.{Appends}
use Rattle.text_buffer.proofs.Promises.{appends_then, appends_same, appends_nothing}
use Rattle.hexadecimal.proofs.Hexing.{inside, above}

-- ---- a digit
pub glyph_low : (d : ℕ) → d < 10 → 48 + d ≡ hex_digit_ascii d
glyph_low d h = rw (lt-ltb d 10 h)

pub glyph_high : (d : ℕ) → 10 ≤ d → 87 + d ≡ hex_digit_ascii d
glyph_high d h = rw (le-ltb d 10 h)

pub pair_is : (b high low : ℕ) → high ≡ hex_digit_ascii (b / 16) → low ≡ hex_digit_ascii (b % 16) → high ∷ low ∷ [] ≡ pair_of b
pair_is b high low e f = ap (λ (x : ℕ). x ∷ low ∷ []) e ∙ ap (λ (x : ℕ). hex_digit_ascii (b / 16) ∷ x ∷ []) f

-- as `io::hex` ensures them
pub spelt : (b k : ℕ) (l : List ℕ) → b < 256 → IsDigitCount 16 2 b k → l ≡ last_digits 16 k b → l ≡ pair_of b
spelt b k l low w e =
    let is : k ≡ 2 = elim (dec_lt 2 k) [
      | yes g ↦ absurd (omega (arith, low, w.2 g, pow-le-pow_right (lit< {m = 0} {n = 16} tt) {i = 2} {j = k - 1} (omega (arith, g))))
      | no h ↦ omega (arith, w.0, h)
    ] in
    let h : b / 16 % 16 ≡ b / 16 = omega (arith, low) in
    e ∙ ap (λ (j : ℕ). last_digits 16 j b) is ∙ ap (λ (x : ℕ). hex_digit_ascii x ∷ hex_digit_ascii (b % 16) ∷ []) h

-- ---- i bytes of s are written after the text that ended at `at` in the buffer b₀
pub record Encoding (b₀ : List ℕ) (at : ℕ) (s b : List ℕ) (n i : ℕ) : Type 0 where
  pub turns : i ≤ length s
  pub inside : n ≤ length b
  pub size : length b ≡ length b₀
  pub text : Appends b₀ at (hex_of (take i s)) b n

hex_last : (l : List ℕ) (b : ℕ) → hex_of (l ++ (b ∷ [])) ≡ hex_of l ++ pair_of b
unfolding hex_of
hex_last [] b = refl
hex_last (a ∷ l) b = ap (λ (m : List ℕ). pair_of a ++ m) (hex_last l b)

pub encoding_start : (b : List ℕ) (at : ℕ) (s : List ℕ) → at ≤ length b → Encoding b at s b at 0
unfolding hex_of
encoding_start b at s h = record {
  turns = omega arith;
  inside = h;
  size = refl;
  text = appends_nothing b at h;
}

module _ {b₀ : List ℕ} {at : ℕ} {s b : List ℕ} {n i : ℕ} (p : Encoding b₀ at s b n i) where
  pub encoding_byte : i < length s → (b' : List ℕ) (n' : ℕ) → n' ≤ length b' → length b' ≡ length b → Appends b n (pair_of (get_or s i 0)) b' n' → Encoding b₀ at s b' n' (i + 1)
  encoding_byte h b' n' within same q =
      let x = get_or s i 0 in
      let e : hex_of (take i s) ++ pair_of x ≡ hex_of (take (i + 1) s)
      = sym (ap (λ (j : ℕ). hex_of (take j s)) (add-one i) ∙ ap hex_of (take-suc s i 0 h) ∙ hex_last (take i s) x) in
      record {
        turns = omega arith;
        inside = within;
        size = same ∙ p.size;
        text = appends_same (hex_of (take i s) ++ pair_of x) (hex_of (take (i + 1) s)) e (appends_then (hex_of (take i s)) (pair_of x) p.text q);
      }

  pub encoding_end : length s ≤ i → Appends b₀ at (hex_of s) b n
  encoding_end h = appends_same (hex_of (take i s)) (hex_of s) (ap hex_of (take_all i s h)) p.text

-- ---- what was written is read back
-- a digit is no separator, opens no comment, and is not the x of 0x
pub record IsDigit (c d : ℕ) : Type 0 where
  pub no_separator : is_separator c ≡ false
  pub no_comment : eqb c 35 ≡ false
  pub no_x : eqb c 120 ≡ false
  pub value : digit_of c ≡ d

digit_low : (d : ℕ) → d < 10 → IsDigit (48 + d) d
unfolding is_separator is_blank digit_of
digit_low d h =
    let c = 48 + d in
    let e : c - 48 ≡ d = omega arith in
    record {
      no_separator = rw (ne_eqb c 32 (λ z. omega (arith, z)), ne_eqb c 9 (λ z. omega (arith, z)), ne_eqb c 10 (λ z. omega (arith, z)), ne_eqb c 13 (λ z. omega (arith, z)), ne_eqb c 44 (λ z. omega (arith, z)), ne_eqb c 58 (λ z. omega (arith, z)), ne_eqb c 123 (λ z. omega (arith, z)), ne_eqb c 125 (λ z. omega (arith, z)));
      no_comment = ne_eqb c 35 (λ z. omega (arith, z));
      no_x = ne_eqb c 120 (λ z. omega (arith, z));
      value = rw (inside 48 57 c (omega arith) (omega arith)) e;
    }

digit_high : (d : ℕ) → 10 ≤ d → d < 16 → IsDigit (87 + d) d
unfolding is_separator is_blank digit_of
digit_high d g h =
    let c = 87 + d in
    let e : c - 87 ≡ d = omega arith in
    record {
      no_separator = rw (ne_eqb c 32 (λ z. omega (arith, z)), ne_eqb c 9 (λ z. omega (arith, z)), ne_eqb c 10 (λ z. omega (arith, z)), ne_eqb c 13 (λ z. omega (arith, z)), ne_eqb c 44 (λ z. omega (arith, z)), ne_eqb c 58 (λ z. omega (arith, z)), ne_eqb c 123 (λ z. omega (arith, z)), ne_eqb c 125 (λ z. omega (arith, z)));
      no_comment = ne_eqb c 35 (λ z. omega (arith, z));
      no_x = ne_eqb c 120 (λ z. omega (arith, z));
      value = rw (above 48 57 c (omega arith), above 65 70 c (omega arith), inside 97 102 c (omega arith) (omega arith)) e;
    }

digit_back : (d : ℕ) → d < 16 → IsDigit (hex_digit_ascii d) d
digit_back d h =
    elim (dec_lt d 10) [
      | yes l ↦ subst (λ (c : ℕ). IsDigit c d) (glyph_low d l) (digit_low d l)
      | no g ↦ subst (λ (c : ℕ). IsDigit c d) (glyph_high d (omega arith)) (digit_high d (omega arith) h)
    ]

no_prefix : (b c : Bool) → c ≡ false → b && c ≡ false
no_prefix true c e = e
no_prefix false c e = refl

pair_back : (p b : ℕ) (l : List ℕ) → b < 256 → token_of p (pair_of b ++ l) ≡ Byte b 2
unfolding token_of digits_of after_high is_prefixed
pair_back p b l h =
    let q = div-add-mod' b 16 in
    let high = hex_digit_ascii (b / 16) in
    let s = digit_back (b / 16) (omega (arith, q)) in
    let t = digit_back (b % 16) (mod-lt b (lit< tt)) in
    rw (s.no_separator, s.no_comment, no_prefix (eqb high 48) (eqb (hex_digit_ascii (b % 16)) 120) t.no_x, s.value, le-ltb 15 (b / 16) (omega (arith, q)), t.value, le-ltb 15 (b % 16) (omega (arith, mod-lt b (lit< {m = 0} {n = 16} tt))))
    (ap (λ (x : ℕ). Byte x 2) q)

pub nothing_read : (p room : ℕ) → read_from p room [] ≡ record { bytes = []; end = whole }
unfolding read_past_of
nothing_read p room = refl

-- a blank is passed over; a byte is the first of those that are read
pub blank_read : (p room : ℕ) (s : List ℕ) → read_from p room (32 ∷ s) ≡ read_from (p + 1) room s
unfolding read_past_of token_of is_separator is_blank
blank_read p room s = refl

pub pair_read : (p room b : ℕ) (s : List ℕ) → b < 256 → read_from p (suc room) (pair_of b ++ s) ≡ with_bytes (b ∷ []) (read_from (p + 2) room s)
unfolding read_past_of
pair_read p room b s h =
    let e : p + 1 + 1 ≡ p + 2 = omega arith in
    rw (pair_back p b s h) (ap (λ (q : ℕ). with_bytes (b ∷ []) (read_past_of 0 q room s)) e)

pub hex_back : (p room : ℕ) (l : List ℕ) → AllBytes l → length l ≤ room → read_from p room (hex_of l) ≡ record { bytes = l; end = whole }
unfolding hex_of
hex_back p room [] low h = nothing_read p room
hex_back p zero (b ∷ l) low h = absurd (omega (arith, h))
hex_back p (suc room) (b ∷ l) low h =
    pair_read p room b (hex_of l) (low 0) ∙ ap (with_bytes (b ∷ [])) (hex_back (p + 2) room l (λ j. low (suc j)) (omega (arith, h)))
