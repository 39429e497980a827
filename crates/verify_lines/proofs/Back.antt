-- What `verify --list` prints of an accepted expression is read back as its bytes. Assumes nothing.
use Prim.Native.Nat.{ℕ, zero, suc, ◌+◌, ◌-◌, ◌/◌, ◌%◌, ◌≤◌, ◌<◌}
use native.Mathlib.Omega.{arith}
use native.Mathlib.Decide.{ℕ_discrete}
use mathlib.Core.Bool.{Bool, true, false, cond}
use mathlib.Core.List.{List, [], ◌∷◌, ◌++◌, append-nil, append_assoc}
use mathlib.Core.Path.{◌≡◌, refl, sym, ap, ◌∙◌}
use lib.Dec.{eqb}
use lib.ListN.{length, take, drop, get_or, replicate, drop_of_length-le}
use borrow.Author.Tests.{eq-eqb, ne_eqb, lt-ltb, le-ltb, le-leb}
use Rattle.encoding.specs.Ranges.{AllBytes}
use Rattle.logic.proofs.Promises.{cases}
use Rattle.io.specs.Digits.{hex_digit_ascii}
use Rattle.hexadecimal.specs.Hex.{hex_of}
use Rattle.text_buffer.specs.Text.{bytes_of}
use Rattle.isa.specs.Classes.{kind_unsupported}
use Rattle.isa.specs.Decode.{kind_at, next}
use Rattle.isa.specs.Starts.{is_start}
use Rattle.isa.proofs.Promises.{by_starts, from_end, start_zero, start_in, start_next}
use Rattle.verdict.specs.Acceptance.{Acceptable}
use Rattle.verdict.specs.Pass3.{unreached}
use Rattle.verdict.specs.Verdict.{accepted, verdict}
use Rattle.verdict.proofs.Promises.{accepted_means, start_whole}
use Rattle.text_buffer.specs.Decimal.{decimal}
use Rattle.instruction_text.specs.Text.{text_at, is_instruction}
use Rattle.listing.specs.Meant.{headings, is_heading}
use Rattle.listing.specs.Listing.{bytes, read_lines, lines_of, read_text}
use Rattle.listing.proofs.Promises.{Feedless, feedless_append, feedless_number, heading_then, row_then}
use Rattle.phrases.specs.Numbers.{count_text}
use Rattle.verify_lines.specs.Bytes.{bytes_line, bytes_lines, bytes_text}
use Rattle.verify_lines.specs.Listed.{gap_text, beside_text, row_text, first_of, answer_text}
use Rattle.verify_lines.specs.Verdict.{accepted_text, verdict_text, height_text}
use Rattle.verify_lines.proofs.Rows.{row_accepted, listed_low, rows_from, rows_all, rows_next}

-- ---- the first line
chosen : (b : Bool) (x y : List ℕ) → Feedless x → Feedless y → Feedless (cond b x y)
chosen true x y p q = p
chosen false x y p q = q

count_feedless : (n : ℕ) (w : List ℕ) → Feedless w → Feedless (count_text n w)
unfolding count_text
count_feedless n w p =
    let a = decimal n ++ bytes_of " " in
    let q = feedless_append a w (feedless_append (decimal n) (bytes_of " ") (feedless_number n) tt) p in
    chosen (eqb n 1) (a ++ w) (a ++ w ++ bytes_of "s") q (feedless_append (a ++ w) (bytes_of "s") q tt)

accepted_then : (n g l m i : ℕ) (r b : List ℕ) → read_lines (m + 1) i (lines_of r) ≡ bytes b → read_lines m i (lines_of (accepted_text n g l ++ r)) ≡ bytes b
unfolding accepted_text is_heading headings
accepted_then n g l m i r b =
    let c = count_text n (bytes_of "instruction") in
    let p = bytes_of "accepted: " ++ c in
    let q = p ++ bytes_of ", greatest height " in
    let s = q ++ decimal g in
    let t = s ++ bytes_of ", longest walk " in
    heading_then (t ++ decimal l)
    (feedless_append t (decimal l)
    (feedless_append s (bytes_of ", longest walk ")
    (feedless_append q (decimal g)
    (feedless_append p (bytes_of ", greatest height ") (feedless_append (bytes_of "accepted: ") c tt (count_feedless n (bytes_of "instruction") tt)) tt)
    (feedless_number g))
    tt)
    (feedless_number l))
    refl m i r b

-- ---- a row: spaces and a comment behind the text of the instruction
gap_spaces : (n : ℕ) → (m : ℕ) × (gap_text n ≡ replicate m 32)
unfolding gap_text
gap_spaces n = cases n 35 (λ h. (36 - n, rw (lt-ltb n 35 h))) (λ h. (1, rw (le-ltb n 35 h)))

height_comment : (h : ℕ) → (t : List ℕ) × (height_text h ≡ (35 ∷ t) ++ (10 ∷ [])) × Feedless t
unfolding height_text
height_comment h =
    elim (ℕ_discrete h unreached) [
      | yes p ↦ (bytes_of " not reached", rw (eq-eqb h unreached p), tt)
      | no p ↦ (bytes_of " height " ++ decimal h, rw (ne_eqb h unreached p), feedless_append (bytes_of " height ") (decimal h) tt (feedless_number h))
    ]

-- ---- a start of an acceptable expression is that of an instruction
start_instruction : (e : List ℕ) → Acceptable e → (i : ℕ) → is_start e i ≡ true → is_instruction e i ≡ true
unfolding is_instruction
start_instruction e a i s =
    let w = start_whole e a i s in
    rw (lt-ltb i (length e) (start_in e i s), lt-ltb kind_unsupported (kind_at e i) w.0, le-leb (next e i) (length e) w.1)

-- ---- a text that says nothing at offset i: none, and the lines of bytes
abbrev Silent : ℕ → List ℕ → Type 0
Silent i t = (m : ℕ) → read_lines m i (lines_of t) ≡ bytes []

silent_none : (i : ℕ) → Silent i []
unfolding read_lines lines_of
silent_none i m = refl

silent_chosen : (i : ℕ) (b : Bool) (x y : List ℕ) → Silent i x → Silent i y → Silent i (cond b x y)
silent_chosen i true x y p q = p
silent_chosen i false x y p q = q

digit_feedless : (d : ℕ) → Feedless (hex_digit_ascii d ∷ [])
digit_feedless d =
    cases d 10
    (λ h. rw (lt-ltb d 10 h, ne_eqb (48 + d) 10 (λ z. omega (arith, z))) tt)
    (λ h. rw (le-ltb d 10 h, ne_eqb (87 + d) 10 (λ z. omega (arith, z))) tt)

hex_feedless : (l : List ℕ) → Feedless (hex_of l)
unfolding hex_of
hex_feedless [] = tt
hex_feedless (b ∷ l) =
    feedless_append (hex_digit_ascii (b / 16) ∷ []) (hex_digit_ascii (b % 16) ∷ hex_of l) (digit_feedless (b / 16))
    (feedless_append (hex_digit_ascii (b % 16) ∷ []) (hex_of l) (digit_feedless (b % 16)) (hex_feedless l))

silent_line : (i : ℕ) (l r : List ℕ) → Silent i r → Silent i (bytes_line l ++ r)
unfolding bytes_line is_heading headings
silent_line i l r p m =
    heading_then (bytes_of "bytes " ++ hex_of l) (feedless_append (bytes_of "bytes ") (hex_of l) tt (hex_feedless l)) refl m i r [] (p (m + 1))

silent_lines : (i n : ℕ) (l : List ℕ) → Silent i (bytes_lines n l)
unfolding bytes_lines
silent_lines i zero l = silent_none i
silent_lines i (suc n) l =
    let r = bytes_lines n (drop 40 l) in
    silent_chosen i (eqb (length l) 0) [] (bytes_line (take 40 l) ++ r) (silent_none i) (silent_line i (take 40 l) r (silent_lines i n (drop 40 l)))

-- ---- the rows from offset i on, and then a text t that says nothing
module _ (e : List ℕ) (low : AllBytes e) (a : Acceptable e) (hs t : List ℕ) (silent : Silent (length e) t) where
  abbrev Back : ℕ → Type 0
  Back i = i ≤ length e → (i < length e → is_start e i ≡ true) → (m : ℕ) → read_lines m i (lines_of (rows_from e hs true i ++ t)) ≡ bytes (drop i e)

  back_end : (i : ℕ) → length e ≤ i → Back i
  unfolding rows_from first_of
  back_end i h g q m =
      let s : i ≡ length e = omega arith in
      let z : rows_from e hs true i ≡ [] = rw (from_end e i h) in
      ap (λ (l : List ℕ). read_lines m i (lines_of (l ++ t))) z ∙ ap (λ (j : ℕ). read_lines m j (lines_of t)) s ∙ silent m ∙ ap bytes (sym (drop_of_length-le e h))

  row_is : (k : ℕ) → row_text e true (get_or hs k 0) k
      ≡ take (length (text_at e k) - 1) (text_at e k) ++ replicate (gap_spaces (length (text_at e k) - 1)).0 32 ++ ((35 ∷ (height_comment (get_or hs k 0)).0) ++ (10 ∷ []))
  unfolding beside_text
  row_is k =
      let l = text_at e k in
      let n = length l - 1 in
      let h = get_or hs k 0 in
      sym (row_accepted e h k) ∙ ap (λ (b : List ℕ). take n l ++ b ++ height_text h) (gap_spaces n).1
      ∙ ap (λ (b : List ℕ). take n l ++ replicate (gap_spaces n).0 32 ++ b) (height_comment h).1

  back_next : (i : ℕ) → i < length e → Back (next e i) → Back i
  back_next i h b g q m =
      let w = start_instruction e a i (q h) in
      let u = height_comment (get_or hs i 0) in
      let s = row_text e true (get_or hs i 0) i in
      let r = rows_from e hs true (next e i) in
      ap (λ (l : List ℕ). read_lines m i (lines_of (l ++ t))) (sym (rows_next e hs true i (sym (listed_low e i (omega (arith, h, a.sized.short))) ∙ w)))
      ∙ ap (λ (l : List ℕ). read_lines m i (lines_of l)) (append_assoc s r t)
      ∙ ap (λ (l : List ℕ). read_lines m i (lines_of (l ++ (r ++ t)))) (row_is i)
      ∙ row_then e low i (omega (arith, h, a.sized.short)) w (gap_spaces (length (text_at e i) - 1)).0 u.0 u.2 m (r ++ t)
      (b (start_whole e a i (q h)).1 (start_next e i (q h)) (m + 1))

  rows_back : (i : ℕ) → Back i
  rows_back = by_starts e Back back_end back_next

-- ---- the whole answer
module _ (e : List ℕ) (low : AllBytes e) {n g l : ℕ} (q : verdict e ≡ accepted n g l) (hs : List ℕ) where
  -- and then a text t that says nothing
  answer_then : (t : List ℕ) → Silent (length e) t → read_text (answer_text e (accepted n g l) hs true ++ t) ≡ bytes e
  unfolding read_text verdict_text answer_text
  answer_then t silent =
      let a = (accepted_means e q).acceptable in
      let r = rows_from e hs true 0 in
      let f = accepted_text n g l in
      ap (λ (x : List ℕ). read_lines 1 0 (lines_of (f ++ x ++ t))) (sym (rows_all e hs true)) ∙ ap (λ (x : List ℕ). read_lines 1 0 (lines_of x)) (append_assoc f r t)
      ∙ accepted_then n g l 1 0 (r ++ t) e (rows_back e low a hs t silent 0 (omega arith) (start_zero e) 2)

  pub answer_back : read_text (answer_text e (accepted n g l) hs true) ≡ bytes e
  answer_back = ap read_text (sym (append-nil (answer_text e (accepted n g l) hs true))) ∙ answer_then [] (silent_none (length e))

  pub answer_bytes_back : read_text (answer_text e (accepted n g l) hs true ++ bytes_text e) ≡ bytes e
  unfolding bytes_text
  answer_bytes_back = answer_then (bytes_text e) (silent_lines (length e) (length e) e)
