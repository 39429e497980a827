-- The text of an instruction is read back as the instruction, and a listing as the expression. Assumes nothing.
use Rattle.std.specs.Prelude.{Ok}
use Prim.Native.Nat.{ℕ, zero, suc, ◌+◌, ◌-◌, ◌^◌, ◌≤◌, ◌<◌}
use native.Mathlib.Nat.{pow-le-pow_right}
use native.Mathlib.Omega.{arith}
use native.Mathlib.Numerals.{add-one}
use mathlib.Core.Bool.{Bool, true, false, cond, not, ◌&&◌}
use mathlib.Core.List.{List, [], ◌∷◌, ◌++◌, map, append-nil, append_assoc}
use mathlib.Core.Path.{◌≡◌, refl, sym, ap, subst, ◌∙◌}
use lib.Dec.{T, eqb, lit<}
use lib.ListN.{length, take, drop, get_or, replicate, length-append, take-append-drop, drop_of_length-le}
use lib.Seq.{drop-cons, drop-drop, take-append_seam, take_at}
use borrow.Author.Tests.{eq-eqb, ne_eqb, lt-ltb, lt-leb, not-true}
use Rattle.encoding.specs.Ranges.{AllBytes}
use Rattle.logic.proofs.Promises.{cases, and_left, and_right}
use Rattle.encoding.proofs.Promises.{big_below, length_big, bytes_of_big}
use Rattle.hexadecimal.specs.Hex.{is_blank}
use Rattle.isa.specs.Classes.{class_of, kind, kind_unsupported}
use Rattle.isa.specs.Decode.{operand_bytes, operand, next}
use Rattle.isa.specs.Starts.{starts_from}
use Rattle.isa.proofs.Promises.{operands_most, by_starts, from_end, from_next}
use Rattle.text_buffer.proofs.Promises.{decimal_some}
use Rattle.instruction_text.specs.Names.{name_of, opcode_of}
use Rattle.line_words.specs.Words.{is_in_word, Word, first_word, behind}
use Rattle.line_words.specs.Numbers.{is_digit}
use Rattle.line_words.proofs.Promises.{truth, all, stops, both, all_append, first_word_lem, last_blanks, decimal_digits, decimal_back}
use Rattle.text_buffer.specs.Decimal.{decimal}
use Rattle.listing.specs.Numbers.{negated, signed_number}
use Rattle.instruction_text.specs.Text.{aligned, operand_text, text_of, text_at, is_instruction}
use Rattle.listing.specs.Line.{ListingLine, instruction, operands_of, by_word, line_ended, operand_number, operand_by, from_operand, by_opcode, name_by, from_name, by_offset, line_by, read_line, line_bytes}
use Rattle.listing.specs.Meant.{headings, is_heading, is_not, before, before_comment, meant}
use Rattle.listing.specs.Listing.{listing_from, listing, all_instructions, bytes, after_bytes, then_lines, read_lines, joined_lines, onto, lines_of, listing_text, read_text}
use Rattle.listing.proofs.Numbering.{digit_range, negated_value, signed_minus, signed_plain}
use Rattle.listing.proofs.Plain.{is_plain, GoodName, good_name}
use Rattle.phrases.specs.Numbers.{signed_text}
use Rattle.phrases.proofs.Promises.{signed_low, signed_high}
use Rattle.instruction_text.proofs.Promises.{operand_none, operand_some, Instructed, instructed, row_text, row_parts, text_parts}

-- ---- digits are in a word
digit_in_word : (c : ℕ) → T (is_digit 10 c) → T (is_in_word c)
unfolding is_in_word is_blank
digit_in_word c t =
    let r = digit_range c (truth (is_digit 10 c) t) in
    rw (
      ne_eqb c 32 (λ z. omega (arith, r.0)),
      ne_eqb c 9 (λ z. omega (arith, r.0)),
      ne_eqb c 10 (λ z. omega (arith, r.0)),
      ne_eqb c 13 (λ z. omega (arith, r.0)),
    ) tt

-- one test implies another
all_by : (p q : ℕ → Bool) → ((c : ℕ) → T (p c) → T (q c)) → (l : List ℕ) → T (all p l) → T (all q l)
all_by p q f [] t = tt
all_by p q f (c ∷ l) t = both (q c) (all q l) (f c (and_left (p c) (all p l) t)) (all_by p q f l (and_right (p c) (all p l) t))

all_in_word : (l : List ℕ) → T (all (is_digit 10) l) → T (all is_in_word l)
all_in_word = all_by (is_digit 10) is_in_word digit_in_word

not_blank : (w : List ℕ) → T (all is_in_word w) → T (stops is_blank w)
unfolding is_in_word
not_blank [] t = tt
not_blank (c ∷ w) t = and_left (not (is_blank c)) (all is_in_word w) t

first_digit : (w : List ℕ) → T (all (is_digit 10) w) → 0 < length w → is_digit 10 (get_or w 0 0) ≡ true
first_digit [] t h = absurd (omega (arith, h))
first_digit (c ∷ w) t h = truth (is_digit 10 c) (and_left (is_digit 10 c) (all (is_digit 10) w) t)

-- ---- a number is read back
number_low : (v : ℕ) → v < 2 ^ 63 → signed_number (signed_text v) ≡ Ok v
number_low v h =
    let f = digit_range (get_or (decimal v) 0 0) (first_digit (decimal v) (decimal_digits v) (decimal_some v)) in
    ap signed_number (sym (signed_low v h)) ∙ sym (signed_plain (decimal v) (λ z. omega (arith, z, f.0))) ∙ decimal_back v (omega (arith, h))

number_high : (v : ℕ) → 2 ^ 63 ≤ v → v < 2 ^ 64 → signed_number (signed_text v) ≡ Ok v
number_high v g h =
    let d = 18446744073709551615 - v + 1 in
    let e : 18446744073709551615 - d + 1 ≡ v = omega arith in
    ap signed_number (sym (signed_high v g h)) ∙ sym (signed_minus (45 ∷ decimal d) refl) ∙ ap negated (decimal_back d (omega arith))
    ∙ sym (negated_value d (λ z. omega (arith, z)) (omega arith)) ∙ ap (λ (x : ℕ). Ok x) e

number_back : (v : ℕ) → v < 2 ^ 64 → signed_number (signed_text v) ≡ Ok v
number_back v h = cases v (2 ^ 63) (number_low v) (λ g. number_high v g h)

signed_word : (v : ℕ) → v < 2 ^ 64 → T (all is_in_word (signed_text v))
unfolding is_in_word is_blank
signed_word v h =
    cases v (2 ^ 63)
    (λ l. subst (λ (w : List ℕ). T (all is_in_word w)) (signed_low v l) (all_in_word (decimal v) (decimal_digits v)))
    (λ g.
    let d = 18446744073709551615 - v + 1 in
    subst (λ (w : List ℕ). T (all is_in_word w)) (signed_high v g h) (all_in_word (decimal d) (decimal_digits d)))

signed_some : (v : ℕ) → v < 2 ^ 64 → 0 < length (signed_text v)
signed_some v h =
    cases v (2 ^ 63)
    (λ l. omega (arith, ap length (signed_low v l), decimal_some v))
    (λ g. omega (arith, ap length (signed_high v g h)))

-- ---- a word, or none
by_some : (w : Word) (a b : ListingLine) → 0 < length w.bytes → by_word w a b ≡ b
by_some w a b h = rw (ne_eqb (length w.bytes) 0 (λ z. omega (arith, z, h)))

by_none : (w : Word) (a b : ListingLine) → length w.bytes ≡ 0 → by_word w a b ≡ a
by_none w a b h = rw (eq-eqb (length w.bytes) 0 h)

blank_stops : (r : List ℕ) → T (all is_blank r) → T (stops is_in_word r)
unfolding is_in_word
blank_stops [] t = tt
blank_stops (c ∷ r) t = rw (truth (is_blank c) (and_left (is_blank c) (all is_blank r) t)) tt

spaces : (n : ℕ) → T (all is_blank (replicate n 32))
unfolding is_blank
spaces zero = tt
spaces (suc n) = spaces n

-- ---- a line that ends with the blanks r: its end, and the operand before it
module _ (r : List ℕ) (blank : T (all is_blank r)) where
  ended_back : (op count v p : ℕ) → line_ended op count v p r ≡ instruction op count v
  unfolding line_ended
  ended_back op count v p = by_none (first_word p r) (instruction op count v) _ (last_blanks p r blank)

  operand_back : (op count v p : ℕ) → v < 2 ^ 64 → v < 256 ^ count → from_operand op count p ((32 ∷ []) ++ (signed_text v ++ r)) ≡ instruction op count v
  unfolding from_operand is_blank
  operand_back op count v p h l =
      let w : Word = record { column = p + 1; bytes = signed_text v; rest = r } in
      let f = first_word_lem p (32 ∷ []) (signed_text v) r tt (signed_word v h) (not_blank (signed_text v) (signed_word v h)) (signed_some v h) (blank_stops r blank) in
      ap (operand_by op count) f ∙ by_some w _ (operand_number op count w (signed_number (signed_text v))) (signed_some v h)
      ∙ ap (operand_number op count w) (number_back v h) ∙ rw (lt-ltb v (256 ^ count) l) (ended_back op count v (behind w))

  -- ---- the line from the name on
  abbrev tail : ℕ → ℕ → List ℕ
  tail count v = operand_text count v ++ r

  tail_none : (count v : ℕ) → count ≡ 0 → r ≡ tail count v
  tail_none count v h = ap (λ (l : List ℕ). l ++ r) (operand_none count v h)

  tail_some : (count v : ℕ) → (count ≡ 0 → ⊥) → (32 ∷ []) ++ (signed_text v ++ r) ≡ tail count v
  tail_some count v h = ap (λ (l : List ℕ). l ++ r) (operand_some count v h)

  tail_stops : (count v : ℕ) → T (stops is_in_word (tail count v))
  unfolding is_in_word is_blank
  tail_stops count v =
      cases 0 count
      (λ g. subst (λ (l : List ℕ). T (stops is_in_word l)) (tail_some count v (λ z. omega (arith, z, g))) tt)
      (λ l. subst (λ (m : List ℕ). T (stops is_in_word m)) (tail_none count v (omega (arith, l))) (blank_stops r blank))

  module _ (op count v : ℕ) (good : GoodName op) (is : count ≡ operands_of op) (low : v < 2 ^ 64) (fits : v < 256 ^ count) where
    rest_back : (p : ℕ) → cond (eqb count 0) (line_ended op 0 0 p (tail count v)) (from_operand op count p (tail count v)) ≡ instruction op count v
    rest_back p =
        cases 0 count
        (λ g.
        let n : count ≡ 0 → ⊥ = λ z. omega (arith, z, g) in
        rw (ne_eqb count 0 n) (ap (from_operand op count p) (sym (tail_some count v n)) ∙ operand_back op count v p low fits))
        (λ l.
        let z : count ≡ 0 = omega (arith, l) in
        let o : v < 256 ^ 0 = rw z at fits in
        let y : v ≡ 0 = omega (arith, o) in
        rw (eq-eqb count 0 z) (ap (line_ended op 0 0 p) (sym (tail_none count v z)) ∙ ended_back op 0 0 p ∙ ap (λ (x : ℕ). instruction op x 0) (sym z) ∙ ap (instruction op count) (sym y)))

    name_back : (p : ℕ) → from_name p ((32 ∷ 32 ∷ []) ++ (name_of op ++ tail count v)) ≡ instruction op count v
    unfolding from_name is_blank
    name_back p =
        let w : Word = record { column = p + 2; bytes = name_of op; rest = tail count v } in
        let f = first_word_lem p (32 ∷ 32 ∷ []) (name_of op) (tail count v) tt good.word (not_blank (name_of op) good.word) good.some (tail_stops count v) in
        ap name_by f ∙ by_some w _ (by_opcode (opcode_of (name_of op)) w) good.some ∙ ap (λ (x : ℕ). by_opcode x w) good.back
        ∙ rw (lt-leb (kind (class_of op)) kind_unsupported good.supported, ← is) (rest_back (behind w))

    -- ---- the whole line
    pub line_back : (at : ℕ) → at < 2 ^ 64 → read_line at (row_text at op count v ++ r) ≡ instruction op count v
    unfolding read_line aligned is_in_word is_blank
    line_back at h =
        let d = decimal at in
        let b : List ℕ = replicate (3 - length d) 32 in
        let s : List ℕ = (32 ∷ 32 ∷ []) ++ (name_of op ++ tail count v) in
        let t = all_in_word d (decimal_digits at) in
        let w : Word = record { column = 0 + length b; bytes = d; rest = s } in
        let line = (b ++ d) ++ s in
        let f : first_word 0 line ≡ w = ap (first_word 0) (append_assoc b d s) ∙ first_word_lem 0 b d s (spaces (3 - length d)) t (not_blank d t) (decimal_some at) tt in
        ap (read_line at) (row_parts at op count v r) ∙ ap (line_by at line) f ∙ by_some w _ _ (decimal_some at)
        ∙ rw (first_digit d (decimal_digits at) (decimal_some at)) (ap (by_offset at w) (decimal_back at h) ∙ rw (eq-eqb at at refl) (name_back (behind w)))

-- ---- plain characters: neither a line feed nor #
digit_plain : (c : ℕ) → T (is_digit 10 c) → T (is_plain c)
digit_plain c t =
    let r = digit_range c (truth (is_digit 10 c) t) in
    rw (ne_eqb c 10 (λ z. omega (arith, r.0)), ne_eqb c 35 (λ z. omega (arith, r.0))) tt

pub plain_digits : (n : ℕ) → T (all is_plain (decimal n))
plain_digits n = all_by (is_digit 10) is_plain digit_plain (decimal n) (decimal_digits n)

pub plain_spaces : (n : ℕ) → T (all is_plain (replicate n 32))
plain_spaces zero = tt
plain_spaces (suc n) = plain_spaces n

plain_signed : (v : ℕ) → v < 2 ^ 64 → T (all is_plain (signed_text v))
plain_signed v h =
    cases v (2 ^ 63)
    (λ l. subst (λ (w : List ℕ). T (all is_plain w)) (signed_low v l) (plain_digits v))
    (λ g. subst (λ (w : List ℕ). T (all is_plain w)) (signed_high v g h) (plain_digits (18446744073709551615 - v + 1)))

plain_operand : (count v : ℕ) → v < 2 ^ 64 → T (all is_plain (operand_text count v))
plain_operand count v h =
    cases 0 count
    (λ g. subst (λ (l : List ℕ). T (all is_plain l)) (operand_some count v (λ z. omega (arith, z, g))) (plain_signed v h))
    (λ l. subst (λ (m : List ℕ). T (all is_plain m)) (operand_none count v (omega (arith, l))) tt)

pub plain_row : (at op count v : ℕ) → GoodName op → v < 2 ^ 64 → T (all is_plain (row_text at op count v))
unfolding aligned
plain_row at op count v good low =
    let d = decimal at in
    let b : List ℕ = replicate (3 - length d) 32 in
    let s : List ℕ = 32 ∷ 32 ∷ [] in
    all_append is_plain (((b ++ d) ++ s) ++ name_of op) (operand_text count v)
    (all_append is_plain ((b ++ d) ++ s) (name_of op)
    (all_append is_plain (b ++ d) s (all_append is_plain b d (plain_spaces (3 - length d)) (plain_digits at)) tt)
    good.plain)
    (plain_operand count v low)

-- ---- a plain text p in front: it is not cut
before_front : (c : ℕ) (p m : List ℕ) → T (all (is_not c) p) → before c (p ++ m) ≡ p ++ before c m
before_front c [] m t = refl
before_front c (x ∷ p) m t =
    rw (truth (is_not c x) (and_left (is_not c x) (all (is_not c) p) t)) (ap (λ (l : List ℕ). x ∷ l) (before_front c p m (and_right (is_not c x) (all (is_not c) p) t)))

pub feedless : (p : List ℕ) → T (all is_plain p) → T (all (is_not 10) p)
feedless = all_by is_plain (is_not 10) (λ c. and_left (is_not 10 c) (is_not 35 c))

comment_behind : (p m : List ℕ) → T (all is_plain p) → before_comment (p ++ m) ≡ p ++ before_comment m
unfolding before_comment
comment_behind p m t =
    ap (before 35) (before_front 10 p m (feedless p t)) ∙ before_front 35 p (before 10 m) (all_by is_plain (is_not 35) (λ c. and_right (is_not 10 c) (is_not 35 c)) p t)

-- ---- no heading begins with a digit or a blank
no_heading : (c : ℕ) (l : List ℕ) → c < 65 → is_heading (c ∷ l) ≡ false
unfolding is_heading headings
no_heading c l h =
    rw (
      ne_eqb c 83 (λ z. omega (arith, z, h)),
      ne_eqb c 82 (λ z. omega (arith, z, h)),
      ne_eqb c 97 (λ z. omega (arith, z, h)),
      ne_eqb c 114 (λ z. omega (arith, z, h)),
      ne_eqb c 110 (λ z. omega (arith, z, h)),
      ne_eqb c 98 (λ z. omega (arith, z, h)),
    )

number_first : (n : ℕ) (d l : List ℕ) → 0 < length d → get_or d 0 0 < 65 → is_heading ((replicate n 32 ++ d) ++ l) ≡ false
number_first zero [] l g h = absurd (omega (arith, g))
number_first zero (c ∷ d) l g h = no_heading c (d ++ l) h
number_first (suc n) d l g h = no_heading 32 ((replicate n 32 ++ d) ++ l) (lit< tt)

-- ---- the line of an instruction, with m behind it, of which no more than blanks is meant
module _ (op count v : ℕ) (good : GoodName op) (is : count ≡ operands_of op) (low : v < 2 ^ 64) (fits : v < 256 ^ count) (at : ℕ) (h : at < 2 ^ 64) where
  row_instructs : (m : List ℕ) → is_heading (row_text at op count v ++ m) ≡ false
  unfolding aligned
  row_instructs m =
      let d = decimal at in
      let f = digit_range (get_or d 0 0) (first_digit d (decimal_digits at) (decimal_some at)) in
      ap is_heading (row_parts at op count v m) ∙ number_first (3 - length d) d _ (decimal_some at) (omega (arith, f.1))

  pub row_back : (m : List ℕ) → T (all is_blank (before_comment m)) → meant at (row_text at op count v ++ m) ≡ instruction op count v
  unfolding meant
  row_back m t =
      rw (row_instructs m)
      (ap (read_line at) (comment_behind (row_text at op count v) m (plain_row at op count v good low)) ∙ line_back (before_comment m) t op count v good is low fits at h)

  -- a line a, which is the text of the instruction without its line feed, with n spaces and a comment behind it
  pub comment_back : (a : List ℕ) → a ++ (10 ∷ []) ≡ text_of at op count v → (n : ℕ) (t : List ℕ) → meant at (a ++ (replicate n 32 ++ (35 ∷ t))) ≡ instruction op count v
  unfolding text_of before_comment
  comment_back a e n t =
      let w = row_text at op count v in
      let f : List ℕ = 10 ∷ [] in
      let q : a ++ f ≡ w ++ f = e ∙ sym (row_parts at op count v f) in
      let k : length w ≡ length a = omega (arith, ap length q, length-append a f, length-append w f) in
      let same : a ≡ w = sym (take-append_seam a f) ∙ ap (take (length a)) q ∙ take_at w f (length a) k in
      let b : List ℕ = replicate n 32 in
      let m : before_comment (b ++ (35 ∷ t)) ≡ b ++ [] = comment_behind b (35 ∷ t) (plain_spaces n) in
      ap (λ (l : List ℕ). meant at (l ++ (b ++ (35 ∷ t)))) same
      ∙ row_back (b ++ (35 ∷ t)) (subst (λ (l : List ℕ). T (all is_blank l)) (sym (m ∙ append-nil b)) (spaces n))

-- the text of one line and then r
pub line_divided : (a r : List ℕ) → T (all (is_not 10) a) → lines_of ((a ++ (10 ∷ [])) ++ r) ≡ (a ++ (10 ∷ [])) ∷ lines_of r
unfolding lines_of
line_divided [] r t = refl
line_divided (c ∷ a) r t =
    let u = and_left (is_not 10 c) (all (is_not 10) a) t in
    let i = line_divided a r (and_right (is_not 10 c) (all (is_not 10) a) t) in
    rw (not-true (eqb c 10) (truth (not (eqb c 10)) u)) (ap (onto c) i)

-- an operand is a word of 64 bits
pub word_low : (op v : ℕ) → v < 256 ^ operands_of op → v < 2 ^ 64
word_low op v h = omega (arith, h, pow-le-pow_right (lit< {m = 0} {n = 256} tt) (operands_most op))

-- ---- an instruction of an expression e, whose bytes are below 256
module _ (e : List ℕ) (low : AllBytes e) where
  module _ (k : ℕ) (i : Instructed e k) where
    pub operand_below : operand e k < 256 ^ operand_bytes e k
    unfolding operand
    operand_below = big_below e (k + 1) (operand_bytes e k) low

    pub operand_low : operand e k < 2 ^ 64
    operand_low = word_low (get_or e k 0) (operand e k) operand_below

    pub instruction_back : k < 2 ^ 64 → read_line k (text_at e k) ≡ instruction (get_or e k 0) (operand_bytes e k) (operand e k)
    unfolding is_blank
    instruction_back h =
        ap (read_line k) (sym (text_parts e k))
        ∙ line_back (10 ∷ []) tt (get_or e k 0) (operand_bytes e k) (operand e k) (good_name (get_or e k 0) i.supported) refl operand_low operand_below k h

    instruction_meant : k < 2 ^ 64 → meant k (text_at e k) ≡ instruction (get_or e k 0) (operand_bytes e k) (operand e k)
    unfolding before_comment
    instruction_meant h =
        ap (meant k) (sym (text_parts e k))
        ∙ row_back (get_or e k 0) (operand_bytes e k) (operand e k) (good_name (get_or e k 0) i.supported) refl operand_low operand_below k h (10 ∷ []) tt

    -- its bytes are those of the expression
    pub instruction_bytes : line_bytes (instruction (get_or e k 0) (operand_bytes e k) (operand e k)) ≡ take (1 + operand_bytes e k) (drop k e)
    unfolding operand
    instruction_bytes =
        let n = operand_bytes e k in
        let t : drop k e ≡ get_or e k 0 ∷ drop (k + 1) e = rw (add-one, drop-cons e k 0 i.inside) in
        let s : 1 + n ≡ suc n = omega arith in
        ap (λ (l : List ℕ). get_or e k 0 ∷ l) (bytes_of_big e (k + 1) n low i.whole)
        ∙ sym (ap (λ (j : ℕ). take j (drop k e)) s ∙ ap (take (suc n)) t)

  -- ---- a listing from offset i on
  abbrev Back : ℕ → Type 0
  Back i = length e < 2 ^ 64 → T (all_instructions e (starts_from e i)) → (n : ℕ) → read_lines n i (listing_from e i) ≡ bytes (drop i e)

  back_end : (i : ℕ) → length e ≤ i → Back i
  unfolding listing_from read_lines
  back_end i h s t n = ap (λ (l : List ℕ). read_lines n i (map (text_at e) l)) (from_end e i h) ∙ ap bytes (sym (drop_of_length-le e h))

  -- a line that is meant as the instruction at i, and lines for what is behind it
  pub line_then : (i : ℕ) → Instructed e i → (l : List ℕ) → meant i l ≡ instruction (get_or e i 0) (operand_bytes e i) (operand e i)
      → (m : ℕ) (ls : List (List ℕ)) → read_lines (m + 1) (next e i) ls ≡ bytes (drop (next e i) e) → read_lines m i (l ∷ ls) ≡ bytes (drop i e)
  unfolding read_lines
  line_then i c l s m ls g =
      let n = operand_bytes e i in
      let d = line_bytes (instruction (get_or e i 0) n (operand e i)) in
      let z : d ≡ take (1 + n) (drop i e) = instruction_bytes i c in
      let y : i + length d ≡ next e i = omega (arith, length_big n (operand e i)) in
      let q : i + (1 + n) ≡ next e i = omega arith in
      let x : drop (1 + n) (drop i e) ≡ drop (next e i) e = drop-drop (1 + n) i e ∙ ap (λ (j : ℕ). drop j e) q in
      ap (λ (k : ListingLine). then_lines m k (λ a. after_bytes a (read_lines (m + 1) (i + length a) ls))) s
      ∙ ap (λ (j : ℕ). after_bytes d (read_lines (m + 1) j ls)) y
      ∙ ap (after_bytes d) g
      ∙ ap bytes (ap (λ (k : List ℕ). k ++ drop (next e i) e) z ∙ ap (λ (k : List ℕ). take (1 + n) (drop i e) ++ k) (sym x) ∙ take-append-drop (1 + n) (drop i e))

  back_next : (i : ℕ) → i < length e → Back (next e i) → Back i
  unfolding listing_from
  back_next i h b s t m =
      let u : T (is_instruction e i && all_instructions e (starts_from e (next e i))) = subst (λ (l : List ℕ). T (all_instructions e l)) (from_next e i h) t in
      let c = instructed e i (truth (is_instruction e i) (and_left (is_instruction e i) (all_instructions e (starts_from e (next e i))) u)) in
      let g = b s (and_right (is_instruction e i) (all_instructions e (starts_from e (next e i))) u) (m + 1) in
      ap (λ (l : List ℕ). read_lines m i (map (text_at e) l)) (from_next e i h)
      ∙ line_then i c (text_at e i) (instruction_meant i c (omega (arith, s, h))) m (map (text_at e) (starts_from e (next e i))) g

  pub listing_back : (i : ℕ) → length e < 2 ^ 64 → T (all_instructions e (starts_from e i)) → (n : ℕ) → read_lines n i (listing_from e i) ≡ bytes (drop i e)
  listing_back = by_starts e Back back_end back_next

  -- ---- a listing as one text: no line has a line feed but at its end
  lines_back : (ks : List ℕ) → T (all_instructions e ks) → lines_of (joined_lines (map (text_at e) ks)) ≡ map (text_at e) ks
  unfolding lines_of
  lines_back [] t = refl
  lines_back (k ∷ ks) t =
      let i = instructed e k (truth (is_instruction e k) (and_left (is_instruction e k) (all_instructions e ks) t)) in
      let f = row_text k (get_or e k 0) (operand_bytes e k) (operand e k) in
      let p = plain_row k (get_or e k 0) (operand_bytes e k) (operand e k) (good_name (get_or e k 0) i.supported) (operand_low k i) in
      let q : f ++ (10 ∷ []) ≡ text_at e k = text_parts e k in
      let r = joined_lines (map (text_at e) ks) in
      ap (λ (l : List ℕ). lines_of (l ++ r)) (sym q) ∙ line_divided f r (feedless f p) ∙ ap (λ (l : List ℕ). l ∷ lines_of r) q
      ∙ ap (λ (ls : List (List ℕ)). text_at e k ∷ ls) (lines_back ks (and_right (is_instruction e k) (all_instructions e ks) t))

  pub text_back : length e < 2 ^ 64 → T (all_instructions e (starts_from e 0)) → read_text (listing_text e) ≡ bytes e
  unfolding read_text listing_text listing listing_from
  text_back h t = ap (read_lines 1 0) (lines_back (starts_from e 0) t) ∙ listing_back 0 h t 1
