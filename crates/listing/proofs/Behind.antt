-- A text line by line: a heading, or a row with a comment, and then the text behind it. Assumes nothing.
use Prim.Native.Nat.{ℕ, ◌+◌, ◌-◌, ◌^◌, ◌<◌}
use native.Mathlib.Omega.{arith}
use mathlib.Core.Bool.{true}
use mathlib.Core.List.{List, [], ◌∷◌, ◌++◌, append_assoc}
use mathlib.Core.Path.{◌≡◌, refl, sym, ap, ◌∙◌}
use lib.Dec.{T}
use lib.ListN.{length, take, drop, get_or, replicate, length-append}
use lib.Seq.{take_at}
use Rattle.isa.specs.Decode.{operand_bytes, operand, next}
use Rattle.line_words.proofs.Promises.{all, all_append}
use Rattle.encoding.specs.Ranges.{AllBytes}
use Rattle.text_buffer.specs.Decimal.{decimal}
use Rattle.instruction_text.specs.Text.{text_at}
use Rattle.listing.specs.Line.{instruction}
use Rattle.listing.specs.Meant.{is_heading, is_not, meant}
use Rattle.listing.specs.Listing.{bytes, after_bytes, read_lines, lines_of}
use Rattle.listing.proofs.Inverse.{plain_digits, plain_spaces, plain_row, feedless, comment_back, line_divided, operand_low, operand_below, line_then}
use Rattle.listing.proofs.Plain.{good_name}
use Rattle.instruction_text.proofs.Promises.{Instructed, row_text, text_parts}

-- ---- a text without a line feed
abbrev pub Feedless : List ℕ → Type 0
Feedless l = T (all (is_not 10) l)

pub feedless_append : (a b : List ℕ) → Feedless a → Feedless b → Feedless (a ++ b)
feedless_append = all_append (is_not 10)

pub feedless_number : (n : ℕ) → Feedless (decimal n)
feedless_number n = feedless (decimal n) (plain_digits n)

-- ---- a heading, and then the text r
pub heading_then : (l : List ℕ) → Feedless l → is_heading (l ++ (10 ∷ [])) ≡ true → (m i : ℕ) (r b : List ℕ)
    → read_lines (m + 1) i (lines_of r) ≡ bytes b → read_lines m i (lines_of (l ++ (10 ∷ []) ++ r)) ≡ bytes b
unfolding meant read_lines
heading_then l f t m i r b g =
    let z : i + 0 ≡ i = omega arith in
    ap (read_lines m i) (line_divided l r f) ∙ rw t (ap (λ (j : ℕ). after_bytes [] (read_lines (m + 1) j (lines_of r))) z ∙ ap (after_bytes []) g)

-- ---- the text of the instruction at k without its line feed, n spaces and a comment, and then the text r
module _ (e : List ℕ) (low : AllBytes e) (k : ℕ) (h : k < 2 ^ 64) (i : Instructed e k) where
  abbrev row : List ℕ
  row = row_text k (get_or e k 0) (operand_bytes e k) (operand e k)

  row_cut : take (length (text_at e k) - 1) (text_at e k) ≡ row
  row_cut =
      let f : List ℕ = 10 ∷ [] in
      ap (λ (l : List ℕ). take (length l - 1) l) (sym (text_parts e k)) ∙ take_at row f (length (row ++ f) - 1) (omega (arith, length-append row f))

  row_feedless : Feedless row
  row_feedless = feedless row (plain_row k (get_or e k 0) (operand_bytes e k) (operand e k) (good_name (get_or e k 0) i.supported) (operand_low e low k i))

  row_meant : (n : ℕ) (t : List ℕ) → meant k ((row ++ (replicate n 32 ++ (35 ∷ t))) ++ (10 ∷ [])) ≡ instruction (get_or e k 0) (operand_bytes e k) (operand e k)
  unfolding text_at
  row_meant n t =
      let b : List ℕ = replicate n 32 in
      let f : List ℕ = 10 ∷ [] in
      ap (meant k) (append_assoc row (b ++ (35 ∷ t)) f ∙ ap (λ (l : List ℕ). row ++ l) (append_assoc b (35 ∷ t) f))
      ∙ comment_back (get_or e k 0) (operand_bytes e k) (operand e k) (good_name (get_or e k 0) i.supported) refl (operand_low e low k i) (operand_below e low k i) k h row (text_parts e k) n (t ++ f)

  pub row_then : (n : ℕ) (t : List ℕ) → Feedless t → (m : ℕ) (r : List ℕ) → read_lines (m + 1) (next e k) (lines_of r) ≡ bytes (drop (next e k) e)
      → read_lines m k (lines_of (take (length (text_at e k) - 1) (text_at e k) ++ replicate n 32 ++ ((35 ∷ t) ++ (10 ∷ [])) ++ r)) ≡ bytes (drop k e)
  row_then n t p m r g =
      let b : List ℕ = replicate n 32 in
      let f : List ℕ = 10 ∷ [] in
      let l = row ++ (b ++ (35 ∷ t)) in
      let q : Feedless l = feedless_append row (b ++ (35 ∷ t)) row_feedless (feedless_append b (35 ∷ t) (feedless b (plain_spaces n)) p) in
      ap (λ (a : List ℕ). read_lines m k (lines_of (a ++ b ++ ((35 ∷ t) ++ f) ++ r))) row_cut
      ∙ ap (λ (a : List ℕ). read_lines m k (lines_of (a ++ r))) (sym (append_assoc (row ++ b) (35 ∷ t) f) ∙ ap (λ (a : List ℕ). a ++ f) (append_assoc row b (35 ∷ t)))
      ∙ ap (read_lines m k) (line_divided l r q)
      ∙ line_then e low k i (l ++ f) (row_meant n t) m (lines_of r) g
