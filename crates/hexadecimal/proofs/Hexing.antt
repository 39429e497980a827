-- Laws of the reading of a hexadecimal text, for the proofs of the functions of `hex`. Assumes nothing.
use Prim.Native.Nat.{ℕ, zero, suc, ◌+◌, ◌-◌, ◌*◌, ◌≤◌, ◌<◌}
use native.Mathlib.Omega.{arith}
use native.Mathlib.Numerals.{add-one}
use native.Mathlib.Decide.{dec_lt}
use mathlib.Core.Bool.{Bool, true, false, cond, ◌&&◌}
use mathlib.Core.Path.{◌≡◌, refl, sym, ap, subst, ◌∙◌}
use mathlib.Core.List.{List, [], ◌∷◌, ◌++◌, append-nil, append_assoc}
use Rattle.std.specs.Prelude.{not, Result, Ok, Err}
use Rattle.std.specs.List.{prefix_len, take_while, starts_with}
use Rattle.std.proofs.lemmas.List.Folds.{length-prefix_len}
use Rattle.std.specs.Result.{is_ok}
use lib.Dec.{ltb, leb, eqb}
use lib.ListN.{length, drop, set, get_or, length-set, length-append, length-drop, drop_of_length-le}
use lib.Seq.{drop-cons, drop-drop, get_or-drop, set_at}
use borrow.Author.Tests.{le-leb, lt-leb, lt-ltb, le-ltb, eq-eqb, ne_eqb, eqb-true}
use Rattle.hexadecimal.specs.Hex.{is_between, is_separator, line_length, digit_of, after_high, digits_of, is_prefixed, by_prefix, is_digit_at, prefixed_of, token_of, Token, Skip, Byte, Wrong, Single}
use Rattle.hexadecimal.specs.Hex.{End, whole, wrong, single, full, HexReading, stopped, with_bytes, by_token, read_past_of, read_from, reading_of, written_over}
use Rattle.hexadecimal.specs.Told.{first_digit, digit_found, byte_told, token_told, answer_for, hex_answer_of}
use Rattle.hexadecimal.specs.declared.Token.{Token as Begun}
use Rattle.hexadecimal.specs.declared.Token.TheVariants.{Skip as Passed, Byte as Spelled}
use Rattle.hexadecimal.specs.declared.HexError.{HexError}
use Rattle.hexadecimal.specs.declared.HexError.TheVariants.{NotHex, Odd, TooLong}

-- ---- a character in one of the three ranges of digits, or in none

both_false : (t : Bool) → cond t false false ≡ false
both_false true = refl
both_false false = refl

module _ (a b c : ℕ) where
  pub inside : a ≤ c → c ≤ b → is_between a b c ≡ true
  inside h k = simp (le-leb a c h, le-leb c b k)

  pub below : c < a → is_between a b c ≡ false
  below h = simp (lt-leb a c h)

  pub above : b < c → is_between a b c ≡ false
  above h = rw (lt-leb c b h) (both_false (leb a c))

-- ---- a comment: what is left of the text once it is over
line_prefix : (s : List ℕ) → prefix_len (λ c. not (eqb c 10)) s ≡ line_length s
unfolding line_length
line_prefix [] = refl
line_prefix (c ∷ t) = elim (eqb c 10) as (λ b. cond (not b) (1 + prefix_len (λ c. not (eqb c 10)) t) 0 ≡ cond b 0 (suc (line_length t))) [ true ↦ refl | false ↦ omega (arith, line_prefix t) ]

pub line_is : (s : List ℕ) → length (take_while (λ c. not (eqb c 10)) s) ≡ line_length s
line_is s = length-prefix_len (λ c. not (eqb c 10)) s ∙ line_prefix s

pub starts : (s : List ℕ) (at : ℕ) → at < length s → drop at s ≡ get_or s at 0 ∷ drop (at + 1) s
starts s at within = rw (add-one, drop-cons s at 0)

least_chosen : (b : Bool) (x y m : ℕ) → x ≤ m → y ≤ m → cond b x y ≤ m
least_chosen true x y m p q = p
least_chosen false x y m p q = q

pub line_short : (s : List ℕ) → line_length s ≤ length s
unfolding line_length
line_short [] = omega arith
line_short (c ∷ t) = least_chosen (eqb c 10) 0 (suc (line_length t)) (suc (length t)) (omega arith) (omega (arith, line_short t))

-- ---- two digits, by what stands at each of the two places
abbrev pub pairing : Result ℕ HexError → Result ℕ HexError → Result ℕ HexError
pairing (Err e) q = Err e
pairing (Ok high) (Err e) = Err e
pairing (Ok high) (Ok low) = Ok (high * 16 + low)

low_by : (p high : ℕ) (t : List ℕ) → pairing (Ok high) (first_digit (p + 1) t) ≡ byte_told (after_high p high t)
unfolding after_high
low_by p high [] = refl
low_by p high (c ∷ t) =
    elim (ltb 15 (digit_of c)) as (λ b. pairing (Ok high) (cond b (Err (NotHex (p + 1))) (Ok (digit_of c))) ≡ byte_told (cond b (Wrong (p + 1)) (Byte (high * 16 + digit_of c) 2))) [
      | true ↦ refl
      | false ↦ refl
    ]

digits_first : (p : ℕ) (l : List ℕ) → pairing (first_digit p l) (first_digit (p + 1) (drop 1 l)) ≡ byte_told (digits_of p l)
unfolding digits_of
digits_first p [] = refl
digits_first p (c ∷ t) =
    elim (ltb 15 (digit_of c)) as (λ b. pairing (cond b (Err (NotHex p)) (Ok (digit_of c))) (first_digit (p + 1) t) ≡ byte_told (cond b (Wrong p) (after_high p (digit_of c) t))) [
      | true ↦ refl
      | false ↦ low_by p (digit_of c) t
    ]

pub digits_by : (s : List ℕ) (at : ℕ) (r q : Result ℕ HexError) → r ≡ digit_found s at → q ≡ digit_found s (at + 1) → pairing r q ≡ byte_told (digits_of at (drop at s))
digits_by s at r q e f =
    ap (λ (x : Result ℕ HexError). pairing x q) e
    ∙ ap (pairing (digit_found s at)) (f ∙ ap (first_digit (at + 1)) (sym (drop-drop 1 at s)))
    ∙ digits_first at (drop at s)

-- ---- with 0x in front
eqb_turned : (a b : ℕ) → eqb a b ≡ eqb b a
eqb_turned a b =
    elim (dec_lt a b) [
      | yes h ↦ rw (ne_eqb a b (λ z. omega (arith, h, z)), ne_eqb b a (λ z. omega (arith, h, z)))
      | no h ↦
          elim (dec_lt b a) [
            | yes g ↦ rw (ne_eqb a b (λ z. omega (arith, g, z)), ne_eqb b a (λ z. omega (arith, g, z)))
            | no g ↦ let e : a ≡ b = omega arith in rw e
          ]
    ]

and_true : (b : Bool) → b && true ≡ b
and_true true = refl
and_true false = refl

-- as the library tests it
pub prefixed_is : (s : List ℕ) → starts_with eqb s (48 ∷ 120 ∷ []) ≡ is_prefixed s
unfolding is_prefixed
prefixed_is [] = refl
prefixed_is (c ∷ []) = ap (λ (b : Bool). b && false) (eqb_turned 48 c)
prefixed_is (c ∷ d ∷ t) = (λ i. eqb_turned 48 c i && (eqb_turned 120 d i && true)) ∙ ap (λ (b : Bool). eqb c 48 && b) (and_true (eqb d 120))

pub prefixed_long : (s : List ℕ) → is_prefixed s ≡ true → 2 ≤ length s
unfolding is_prefixed
prefixed_long [] e = let z : ◌≡◌ {A = ℕ} 0 1 = cc in absurd (omega arith)
prefixed_long (c ∷ []) e = elim (eqb c 48) as (λ b. b && false ≡ true → 2 ≤ 1) [ true ↦ λ h. (let z : ◌≡◌ {A = ℕ} 0 1 = cc in absurd (omega arith)) | false ↦ λ h. (let z : ◌≡◌ {A = ℕ} 0 1 = cc in absurd (omega arith)) ] e
prefixed_long (c ∷ d ∷ t) e = omega arith

-- 0x, two digits, and whether there is a third one
abbrev pub prefixing : ℕ → Result ℕ HexError → Bool → Result ℕ HexError
prefixing p (Err e) third = Err e
prefixing p (Ok x) third = cond third (Err (NotHex (p + 4))) (Ok x)

prefix_told : (p : ℕ) (d : Token) (third : Bool) → prefixing p (byte_told d) third ≡ byte_told (by_prefix p d third)
prefix_told p (Skip n) third = refl
prefix_told p (Byte x n) true = refl
prefix_told p (Byte x n) false = refl
prefix_told p (Wrong q) third = refl
prefix_told p Single third = refl

digit_first : (p : ℕ) (l : List ℕ) → is_ok (first_digit p l) ≡ leb (digit_of (get_or l 0 0)) 15
unfolding digit_of
digit_first p [] = refl
digit_first p (c ∷ t) =
    elim (dec_lt 15 (digit_of c)) [
      | yes h ↦ rw (lt-ltb 15 (digit_of c) h, lt-leb (digit_of c) 15 h)
      | no h ↦ rw (le-ltb 15 (digit_of c) (omega arith), le-leb (digit_of c) 15 (omega arith))
    ]

third_digit : (s : List ℕ) (at : ℕ) → is_ok (digit_found s (at + 4)) ≡ is_digit_at (drop at s) 4
unfolding is_digit_at
third_digit s at =
    let z : at + 4 + 0 ≡ at + 4 = omega arith in
    digit_first (at + 4) (drop (at + 4) s)
    ∙ ap (λ (c : ℕ). leb (digit_of c) 15) (get_or-drop (at + 4) s 0 0 ∙ ap (λ (i : ℕ). get_or s i 0) z ∙ sym (get_or-drop at s 4 0))

pub prefixed_by : (s : List ℕ) (at : ℕ) (d : Result ℕ HexError) (q : Result ℕ HexError) → d ≡ byte_told (digits_of (at + 2) (drop (at + 2) s)) → q ≡ digit_found s (at + 4)
    → prefixing at d (is_ok q) ≡ byte_told (prefixed_of at (drop at s))
unfolding prefixed_of
prefixed_by s at d q e f =
    ap (λ (x : Result ℕ HexError). prefixing at x (is_ok q)) (e ∙ ap (λ (l : List ℕ). byte_told (digits_of (at + 2) l)) (sym (drop-drop 2 at s)))
    ∙ ap (λ (t : Bool). prefixing at (byte_told (digits_of (at + 2) (drop 2 (drop at s)))) t) (ap is_ok f ∙ third_digit s at)
    ∙ prefix_told at (digits_of (at + 2) (drop 2 (drop at s))) (is_digit_at (drop at s) 4)

-- ---- the token at a position
module _ (s : List ℕ) (at : ℕ) (within : at < length s) where
  first : get_or (drop at s) 0 0 ≡ get_or s at 0
  first = rw (starts s at within)

  pub token_separator : is_separator (get_or s at 0) ≡ true → Skip 1 ≡ token_of at (drop at s)
  unfolding token_of
  token_separator b = rw (first, b)

  module _ (b : is_separator (get_or s at 0) ≡ false) where
    pub token_comment : get_or s at 0 ≡ 35 → (n : ℕ) → n ≡ line_length (drop at s) → Skip n ≡ token_of at (drop at s)
    unfolding token_of
    token_comment h n e = rw (first, b, eq-eqb (get_or s at 0) 35 h) (ap Skip e)

    module _ (h : get_or s at 0 ≡ 35 → ⊥) where
      pub token_prefixed : is_prefixed (drop at s) ≡ true → prefixed_of at (drop at s) ≡ token_of at (drop at s)
      unfolding token_of
      token_prefixed p = rw (first, b, ne_eqb (get_or s at 0) 35 h, p)

      pub token_digits : is_prefixed (drop at s) ≡ false → digits_of at (drop at s) ≡ token_of at (drop at s)
      unfolding token_of
      token_digits p = rw (first, b, ne_eqb (get_or s at 0) 35 h, p)

-- ---- how many characters a token has, of a text with m characters
abbrev pub Sized : Token → ℕ → Type 0
Sized (Skip n) m = (0 < n) × (n ≤ m)
Sized (Byte x n) m = (0 < n) × (n ≤ m)
Sized (Wrong p) m = Unit {0}
Sized Single m = Unit {0}

sized_chosen : (b : Bool) (x y : Token) (m : ℕ) → (b ≡ true → Sized x m) → (b ≡ false → Sized y m) → Sized (cond b x y) m
sized_chosen true x y m p q = p refl
sized_chosen false x y m p q = q refl

-- two digits
abbrev Paired : Token → ℕ → Type 0
Paired (Skip n) m = ⊥
Paired (Byte x n) m = (n ≡ 2) × (2 ≤ m)
Paired (Wrong p) m = Unit {0}
Paired Single m = Unit {0}

paired_chosen : (b : Bool) (x y : Token) (m : ℕ) → Paired x m → Paired y m → Paired (cond b x y) m
paired_chosen true x y m p q = p
paired_chosen false x y m p q = q

digits_paired : (p : ℕ) (s : List ℕ) → Paired (digits_of p s) (length s)
unfolding digits_of after_high
digits_paired p [] = tt
digits_paired p (c ∷ []) = paired_chosen (ltb 15 (digit_of c)) (Wrong p) Single 1 tt tt
digits_paired p (c ∷ d ∷ t) =
    let x = digit_of c * 16 + digit_of d in
    paired_chosen (ltb 15 (digit_of c)) (Wrong p) (cond (ltb 15 (digit_of d)) (Wrong (p + 1)) (Byte x 2)) (length (c ∷ d ∷ t)) tt
    (paired_chosen (ltb 15 (digit_of d)) (Wrong (p + 1)) (Byte x 2) (length (c ∷ d ∷ t)) tt (refl, omega arith))

paired_sized : (d : Token) (m : ℕ) → Paired d m → Sized d m
paired_sized (Skip n) m q = absurd q
paired_sized (Byte x n) m q = (omega arith, omega arith)
paired_sized (Wrong p) m q = tt
paired_sized Single m q = tt

prefix_sized : (p : ℕ) (d : Token) (b : Bool) (k m : ℕ) → Paired d k → k ≡ m - 2 → Sized (by_prefix p d b) m
prefix_sized p (Skip n) b k m q e = absurd q
prefix_sized p (Byte x n) b k m q e = sized_chosen b (Wrong (p + 4)) (Byte x 4) m (λ _. tt) (λ _. (omega arith, omega arith))
prefix_sized p (Wrong r) b k m q e = tt
prefix_sized p Single b k m q e = tt

line_some : (c : ℕ) (t : List ℕ) → eqb c 35 ≡ true → 0 < line_length (c ∷ t)
unfolding line_length
line_some c t e = let h : c ≡ 35 = eqb-true c 35 e in rw (ne_eqb c 10 (λ z. omega (arith, h, z))) (omega arith)

pub token_sized : (p : ℕ) (s : List ℕ) → 0 < length s → Sized (token_of p s) (length s)
unfolding token_of prefixed_of
token_sized p [] h = absurd (omega (arith, h))
token_sized p (c ∷ t) h =
    let s = c ∷ t in
    let m = length s in
    let r = cond (is_prefixed s) (prefixed_of p s) (digits_of p s) in
    sized_chosen (is_separator c) (Skip 1) (cond (eqb c 35) (Skip (line_length s)) r) m (λ _. (omega arith, omega arith))
    (λ _. sized_chosen (eqb c 35) (Skip (line_length s)) r m (λ e. (line_some c t e, line_short s))
    (λ _. sized_chosen (is_prefixed s) (prefixed_of p s) (digits_of p s) m
    (λ _. prefix_sized p (digits_of (p + 2) (drop 2 s)) (is_digit_at s 4) (length (drop 2 s)) m (digits_paired (p + 2) (drop 2 s)) (length-drop 2 s))
    (λ _. paired_sized (digits_of p s) m (digits_paired p s))))

-- ---- a byte that is told with its number of characters
abbrev pub spelling : ℕ → Result ℕ HexError → Result Begun HexError
spelling n (Ok x) = Ok (Spelled x n)
spelling n (Err e) = Err e

paired_told : (d : Token) (m : ℕ) → Paired d m → spelling 2 (byte_told d) ≡ token_told d
paired_told (Skip n) m q = absurd q
paired_told (Byte x n) m q = ap (λ (k : ℕ). Ok (Spelled x k)) (sym q.0)
paired_told (Wrong p) m q = refl
paired_told Single m q = refl

pub digits_told : (p : ℕ) (s : List ℕ) → spelling 2 (byte_told (digits_of p s)) ≡ token_told (digits_of p s)
digits_told p s = paired_told (digits_of p s) (length s) (digits_paired p s)

by_prefix_told : (p : ℕ) (d : Token) (third : Bool) → spelling 4 (byte_told (by_prefix p d third)) ≡ token_told (by_prefix p d third)
by_prefix_told p (Skip n) third = refl
by_prefix_told p (Byte x n) true = refl
by_prefix_told p (Byte x n) false = refl
by_prefix_told p (Wrong q) third = refl
by_prefix_told p Single third = refl

pub prefix_told_whole : (p : ℕ) (s : List ℕ) → spelling 4 (byte_told (prefixed_of p s)) ≡ token_told (prefixed_of p s)
unfolding prefixed_of
prefix_told_whole p s = by_prefix_told p (digits_of (p + 2) (drop 2 s)) (is_digit_at s 4)

module _ (s : List ℕ) (at : ℕ) (within : at < length s) (b : is_separator (get_or s at 0) ≡ false) (h : get_or s at 0 ≡ 35 → ⊥) (r : Result ℕ HexError) where
  pub prefixed_token : is_prefixed (drop at s) ≡ true → r ≡ byte_told (prefixed_of at (drop at s)) → spelling 4 r ≡ token_told (token_of at (drop at s))
  prefixed_token p e = ap (spelling 4) e ∙ prefix_told_whole at (drop at s) ∙ ap token_told (token_prefixed s at within b h p)

  pub digits_token : is_prefixed (drop at s) ≡ false → r ≡ byte_told (digits_of at (drop at s)) → spelling 2 r ≡ token_told (token_of at (drop at s))
  digits_token p e = ap (spelling 2) e ∙ digits_told at (drop at s) ∙ ap token_told (token_digits s at within b h p)

-- ---- the token by what is told of it
skip_told : (t : Token) (n : ℕ) → Ok (Passed n) ≡ token_told t → Skip n ≡ t
skip_told (Skip m) n e = let h : n ≡ m = cc in ap Skip h
skip_told (Byte x m) n e = let z : ◌≡◌ {A = ℕ} 0 1 = cc in absurd (omega arith)
skip_told (Wrong p) n e = let z : ◌≡◌ {A = ℕ} 0 1 = cc in absurd (omega arith)
skip_told Single n e = let z : ◌≡◌ {A = ℕ} 0 1 = cc in absurd (omega arith)

byte_of_told : (t : Token) (x n : ℕ) → Ok (Spelled x n) ≡ token_told t → Byte x n ≡ t
byte_of_told (Skip m) x n e = let z : ◌≡◌ {A = ℕ} 0 1 = cc in absurd (omega arith)
byte_of_told (Byte y m) x n e = let h : x ≡ y = cc in let k : n ≡ m = cc in ap (λ (z : ℕ). Byte z n) h ∙ ap (Byte y) k
byte_of_told (Wrong p) x n e = let z : ◌≡◌ {A = ℕ} 0 1 = cc in absurd (omega arith)
byte_of_told Single x n e = let z : ◌≡◌ {A = ℕ} 0 1 = cc in absurd (omega arith)

module _ {r : Result Begun HexError} {y : Begun} (e : r ≡ Ok y) where
  pub told_skip : (t : Token) {n : ℕ} → y ≡ Passed n → r ≡ token_told t → Skip n ≡ t
  told_skip t {n} f g = skip_told t n (sym (e ∙ ap (λ (b : Begun). Ok b) f) ∙ g)

  pub told_byte : (t : Token) {x n : ℕ} → y ≡ Spelled x n → r ≡ token_told t → Byte x n ≡ t
  told_byte t {x} {n} f g = byte_of_told t x n (sym (e ∙ ap (λ (b : Begun). Ok b) f) ∙ g)

-- ---- a reading goes on after its first token
read_past : (k p room : ℕ) (s : List ℕ) → k ≤ length s → read_past_of k p room s ≡ read_from (p + k) room (drop k s)
unfolding read_past_of
read_past zero p room s h = let e : p ≡ p + 0 = omega arith in ap (λ (q : ℕ). read_past_of 0 q room s) e
read_past (suc k) p room [] h = absurd (omega (arith, h))
read_past (suc k) p room (c ∷ t) h =
    let e : p + 1 + k ≡ p + suc k = omega arith in
    read_past k (p + 1) room t (omega (arith, h)) ∙ ap (λ (q : ℕ). read_past_of 0 q room (drop k t)) e

past_token : (n p room : ℕ) (s : List ℕ) → 0 < n → n ≤ length s → read_past_of (n - 1) (p + 1) room (drop 1 s) ≡ read_from (p + n) room (drop n s)
past_token n p room s g h =
    let e : p + 1 + (n - 1) ≡ p + n = omega arith in
    let f : 1 + (n - 1) ≡ n = omega arith in
    read_past (n - 1) (p + 1) room (drop 1 s) (omega (arith, length-drop 1 s))
    ∙ ap (λ (q : ℕ). read_past_of 0 q room (drop (n - 1) (drop 1 s))) e
    ∙ ap (λ (l : List ℕ). read_past_of 0 (p + n) room l) (drop-drop (n - 1) 1 s)
    ∙ ap (λ (k : ℕ). read_past_of 0 (p + n) room (drop k s)) f

pub read_token : (p room : ℕ) (s : List ℕ) → 0 < length s
    → read_from p room s ≡ by_token (token_of p s) room (λ n r. read_past_of (n - 1) (p + 1) r (drop 1 s))
unfolding read_past_of
read_token p room [] h = absurd (omega (arith, h))
read_token p room (c ∷ t) h = refl

-- ---- i characters of the text are read, n bytes are put over the buffer o, and the rest of the text is to be read
-- after them

pub record Decoding (text o out : List ℕ) (n i : ℕ) : Type 0 where
  pub done : List ℕ
  pub count : length done ≡ n
  pub room : n ≤ length o
  pub passed : i ≤ length text
  pub size : length out ≡ length o
  pub put : out ≡ done ++ drop n o
  pub rest : reading_of text (length o) ≡ with_bytes done (read_from i (length o - n) (drop i text))

pub decoding_start : (text o : List ℕ) → Decoding text o o 0 0
decoding_start text o = record {
  done = [];
  count = refl;
  room = omega arith;
  passed = omega arith;
  size = refl;
  put = refl;
  rest = (let z : length o ≡ length o - 0 = omega arith in ap (λ (j : ℕ). read_from 0 j text) z);
}

-- what `decode` ensures of its answer a and of the buffer that it leaves
abbrev pub Ends : List ℕ → List ℕ → List ℕ → Result ℕ HexError → Type 0
Ends text o out a = (a ≡ hex_answer_of (reading_of text (length o))) × ((out ≡ written_over o (reading_of text (length o))) × ((m : ℕ) → a ≡ Ok m → m ≤ length out))

module _ {text o out : List ℕ} {n i : ℕ} (d : Decoding text o out n i) where
  decoding_stop : (e : End) → read_from i (length o - n) (drop i text) ≡ stopped e
      → (answer_for d.done e ≡ hex_answer_of (reading_of text (length o))) × (out ≡ written_over o (reading_of text (length o)))
  decoding_stop e h =
      let l = d.done in
      let r : reading_of text (length o) ≡ record { bytes = l; end = e } = d.rest ∙ ap (with_bytes l) h ∙ ap (λ (m : List ℕ). record { bytes = m; end = e }) (append-nil l) in
      (sym (ap hex_answer_of r), d.put ∙ ap (λ (j : ℕ). l ++ drop j o) (sym d.count) ∙ sym (ap (written_over o) r))

  pub decoding_end : length text ≤ i → Ends text o out (Ok n)
  unfolding read_past_of
  decoding_end h =
      let s = decoding_stop whole (rw (drop_of_length-le text h)) in
      (ap (λ (k : ℕ). Ok k) (sym d.count) ∙ s.0, (s.1, λ m q. let same : n ≡ m = cc in omega (arith, d.room, d.size)))

module _ {text o out : List ℕ} {n i : ℕ} (d : Decoding text o out n i) (more : i < length text) where
  -- what is left starts with the token t
  pub next_token : (t : Token) → t ≡ token_of i (drop i text) → Sized t (length text - i)
  next_token t e = rw e (rw (← (length-drop i text)) (token_sized i (drop i text) (omega (arith, length-drop i text))))

  next_reading : (t : Token) → t ≡ token_of i (drop i text)
      → read_from i (length o - n) (drop i text) ≡ by_token t (length o - n) (λ k r. read_past_of (k - 1) (i + 1) r (drop 1 (drop i text)))
  next_reading t e =
      let k : 0 < length (drop i text) = omega (arith, length-drop i text) in
      simp (read_token i (length o - n) (drop i text) k, sym e)

  past : (k r : ℕ) → 0 < k → k ≤ length text - i → read_past_of (k - 1) (i + 1) r (drop 1 (drop i text)) ≡ read_from (i + k) r (drop (i + k) text)
  past k r g h = past_token k i r (drop i text) g (omega (arith, length-drop i text)) ∙ ap (read_from (i + k) r) (drop-drop k i text)

  pub decoding_skip : (k : ℕ) → Skip k ≡ token_of i (drop i text) → Decoding text o out n (i + k)
  decoding_skip k e =
      let w = next_token (Skip k) e in
      record {
        done = d.done;
        count = d.count;
        room = d.room;
        passed = omega (arith, w.1);
        size = d.size;
        put = d.put;
        rest = d.rest ∙ ap (with_bytes d.done) (next_reading (Skip k) e ∙ past k (length o - n) w.0 w.1);
      }

  pub decoding_byte : (x k : ℕ) → Byte x k ≡ token_of i (drop i text) → n < length out → Decoding text o (set out n x) (n + 1) (i + k)
  decoding_byte x k e h =
      let l = d.done in
      let w = next_token (Byte x k) e in
      let left : length o - n ≡ suc (length o - (n + 1)) = omega (arith, d.size) in
      let one : drop n o ≡ get_or o n 0 ∷ drop (n + 1) o = starts o n (omega (arith, d.size)) in
      let more : HexReading = read_from (i + k) (length o - (n + 1)) (drop (i + k) text) in
      let now : read_from i (length o - n) (drop i text) ≡ with_bytes (x ∷ []) more
      = next_reading (Byte x k) e ∙ rw left (ap (with_bytes (x ∷ [])) (past k (length o - (n + 1)) w.0 w.1)) in
      record {
        done = l ++ (x ∷ []);
        count = length-append l (x ∷ []) ∙ omega (arith, d.count);
        room = omega (arith, d.size);
        passed = omega (arith, w.1);
        size = length-set out n x ∙ d.size;
        put = ap (λ (b : List ℕ). set b n x) (d.put ∙ ap (λ (m : List ℕ). l ++ m) one)
            ∙ set_at l (get_or o n 0) (drop (n + 1) o) x n d.count
            ∙ sym (append_assoc l (x ∷ []) (drop (n + 1) o));
        rest = d.rest ∙ ap (with_bytes l) now
            ∙ ap (λ (m : List ℕ). record { bytes = m; end = more.end }) (sym (append_assoc l (x ∷ []) more.bytes));
      }

  pub decoding_wrong : (p : ℕ) → Wrong p ≡ token_of i (drop i text) → Ends text o out (Err (NotHex p))
  decoding_wrong p e =
      let s = decoding_stop d (wrong p) (next_reading (Wrong p) e) in
      (s.0, (s.1, λ m q. let z : ◌≡◌ {A = ℕ} 0 1 = cc in omega arith))

  pub decoding_single : Single ≡ token_of i (drop i text) → Ends text o out (Err Odd)
  decoding_single e =
      let s = decoding_stop d single (next_reading Single e) in
      (s.0, (s.1, λ m q. let z : ◌≡◌ {A = ℕ} 0 1 = cc in omega arith))

  pub decoding_full : (x k : ℕ) → Byte x k ≡ token_of i (drop i text) → length out ≤ n → Ends text o out (Err TooLong)
  decoding_full x k e h =
      let none : length o - n ≡ 0 = omega (arith, d.size) in
      let s = decoding_stop d full (next_reading (Byte x k) e ∙ rw none refl) in
      (s.0, (s.1, λ m q. let z : ◌≡◌ {A = ℕ} 0 1 = cc in omega arith))

  -- no token
  pub decoding_err : (e : HexError) (t : Token) → t ≡ token_of i (drop i text) → Err e ≡ token_told t → Ends text o out (Err e)
  decoding_err e (Skip n) q r = let z : ◌≡◌ {A = ℕ} 0 1 = cc in absurd (omega arith)
  decoding_err e (Byte x n) q r = let z : ◌≡◌ {A = ℕ} 0 1 = cc in absurd (omega arith)
  decoding_err e (Wrong p) q r = let h : NotHex p ≡ e = cc in subst (λ (f : HexError). Ends text o out (Err f)) h (decoding_wrong p q)
  decoding_err e Single q r = let h : Odd ≡ e = cc in subst (λ (f : HexError). Ends text o out (Err f)) h (decoding_single q)
