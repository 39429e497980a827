-- The words of a line: where the code finds one, and how a text divides into them. Assumes nothing.
use Prim.Native.Nat.{ℕ, ◌+◌, ◌-◌, ◌≤◌, ◌<◌}
use native.Mathlib.Omega.{arith}
use mathlib.Core.Bool.{true, false}
use mathlib.Core.List.{List, [], ◌∷◌, ◌++◌, append-nil}
use mathlib.Core.Path.{◌≡◌, refl, sym, ap, subst, ◌∙◌}
use lib.Dec.{T, eqb}
use lib.ListN.{length, take, drop, length-drop}
use lib.Seq.{length-take-le, drop-drop, take-append_seam, drop-append_seam, drop-length}
use borrow.Author.Tests.{eq-eqb, ne_eqb}
use Rattle.encoding.proofs.Promises.{part_lent}
use Rattle.hexadecimal.specs.Hex.{is_blank}
use Rattle.line_words.specs.Words.{leading, is_in_word, Word, word_at, first_word, IsAt}
use Rattle.line_words.specs.declared.Place.{Place}
use Rattle.line_words.proofs.Leading.{Counted, all, stops, all_leading}

-- ---- `next_word`: b blanks from column `at` on, then w characters of a word
pub word_found : (line : List ℕ) (at b w : ℕ) → at ≤ length line
    → Counted is_blank (take (length line - at) (drop at line)) b
    → Counted is_in_word (take (length line - (at + b)) (drop (at + b) line)) w
    → IsAt line (record { start = at + b; end = at + b + w }) (first_word at (drop at line))
unfolding first_word
word_found line at b w h p q =
    let l = drop (at + b) line in
    let x : b ≡ leading is_blank (drop at line) = p.0 ∙ ap (leading is_blank) (part_lent line at) in
    let y : w ≡ leading is_in_word l = q.0 ∙ ap (leading is_in_word) (part_lent line (at + b)) in
    let k : w ≤ length l = omega (arith, q.1, ap length (part_lent line (at + b))) in
    let d : drop b (drop at line) ≡ l = drop-drop b at line in
    let e : word_at (at + b) l ≡ first_word at (drop at line)
    = ap (word_at (at + b)) (sym d) ∙ ap (λ (j : ℕ). word_at (at + j) (drop j (drop at line))) x in
    let s : at + b + w - (at + b) ≡ leading is_in_word l = omega (arith, y) in
    subst (IsAt line (record { start = at + b; end = at + b + w })) e (record {
      start_is = refl;
      end_is = omega (arith, y, length-take-le (leading is_in_word l) l (omega (arith, y, k)));
      within = omega (arith, k, p.1, ap length (part_lent line at), length-drop at line, length-drop (at + b) line);
      bytes_is = ap (λ (j : ℕ). take j l) s;
      rest_is = sym (drop-drop w (at + b) line) ∙ ap (λ (j : ℕ). drop j l) y;
    })

-- ---- there is a word, or there is none
module _ {line : List ℕ} {r : Place} {w : Word} (i : IsAt line r w) where
  pub no_word : r.start ≡ r.end → eqb (length w.bytes) 0 ≡ true
  no_word h = eq-eqb (length w.bytes) 0 (omega (arith, h, i.start_is, i.end_is))

  pub a_word : (r.start ≡ r.end → ⊥) → eqb (length w.bytes) 0 ≡ false
  a_word h = ne_eqb (length w.bytes) 0 (λ z. h (omega (arith, z, i.start_is, i.end_is)))

-- ---- the text b of blanks, then the word w, then the text r, which does not go on with the word
front : (w r : List ℕ) → T (stops is_blank w) → 0 < length w → T (stops is_blank (w ++ r))
front [] r u n = absurd (omega (arith, n))
front (c ∷ w) r u n = u

pub first_word_lem : (p : ℕ) (b w r : List ℕ) → T (all is_blank b) → T (all is_in_word w) → T (stops is_blank w) → 0 < length w → T (stops is_in_word r)
    → first_word p (b ++ (w ++ r)) ≡ record { column = p + length b; bytes = w; rest = r }
unfolding first_word
first_word_lem p b w r s t u n v =
    let x : leading is_blank (b ++ (w ++ r)) ≡ length b = all_leading is_blank b (w ++ r) s (front w r u n) in
    let y : leading is_in_word (w ++ r) ≡ length w = all_leading is_in_word w r t v in
    ap (λ (j : ℕ). word_at (p + j) (drop j (b ++ (w ++ r)))) x
    ∙ ap (word_at (p + length b)) (drop-append_seam b (w ++ r))
    ∙ ap (λ (j : ℕ). record { column = p + length b; bytes = take j (w ++ r); rest = drop j (w ++ r) }) y
    ∙ ap (λ (m : List ℕ). record { column = p + length b; bytes = m; rest = drop (length w) (w ++ r) }) (take-append_seam w r)
    ∙ ap (λ (m : List ℕ). record { column = p + length b; bytes = w; rest = m }) (drop-append_seam w r)

-- the text b of blanks and nothing else
pub last_blanks : (p : ℕ) (b : List ℕ) → T (all is_blank b) → length (first_word p b).bytes ≡ 0
unfolding first_word
last_blanks p b s =
    let x : leading is_blank b ≡ length b = ap (leading is_blank) (sym (append-nil b)) ∙ all_leading is_blank b [] s tt in
    ap (λ (j : ℕ). length (take (leading is_in_word (drop j b)) (drop j b))) x ∙ ap (λ (l : List ℕ). length (take (leading is_in_word l) l)) (drop-length b)
