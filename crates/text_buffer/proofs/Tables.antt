-- A row of a table of texts, and the loop of `row_length`. Assumes nothing.
use Prim.Native.Nat.{ℕ, zero, suc, ◌-◌, ◌≤◌, ◌<◌}
use Prim.Native.String.{String}
use native.Mathlib.Omega.{arith}
use mathlib.Core.List.{List, [], ◌∷◌, ◌++◌, map}
use mathlib.Core.Path.{◌≡◌, refl, sym, ap, ◌∙◌}
use lib.Dec.{T, leb, eqb, leb→le, eqb→eq}
use lib.ListN.{length, take, get_or, replicate, length-append, length-replicate}
use lib.Seq.{take-suc, take_all, take-append_seam, length-take-le}
use borrow.Author.Tests.{ne_eqb}
use Rattle.logic.proofs.Promises.{and_left, and_right}
use Rattle.text_buffer.specs.Text.{bytes_of}
use Rattle.text_buffer.specs.Rows.{padded, is_fitting, all_fitting, trimmed}

-- ---- a text with spaces behind it
spaces : (k : ℕ) → trimmed (replicate k 32) ≡ 0
unfolding trimmed
spaces zero = refl
spaces (suc k) = rw (spaces k)

trimmed_spaces : (s : List ℕ) (k : ℕ) → trimmed (s ++ replicate k 32) ≡ trimmed s
unfolding trimmed
trimmed_spaces [] k = spaces k
trimmed_spaces (c ∷ s) k = rw (trimmed_spaces s k)

module _ (w : ℕ) (s : String) (t : T (is_fitting w s)) where
  padded_width : length (padded w s) ≡ w
  padded_width =
      let n = w - length (bytes_of s) in
      let h : length (bytes_of s) ≤ w = leb→le (length (bytes_of s)) w (and_left (leb (length (bytes_of s)) w) (eqb (trimmed (bytes_of s)) (length (bytes_of s))) t) in
      omega (arith, h, length-append (bytes_of s) (replicate n 32), length-replicate {A = ℕ} n 32)

  padded_text : take (trimmed (padded w s)) (padded w s) ≡ bytes_of s
  padded_text =
      let b = bytes_of s in
      let r : List ℕ = replicate (w - length b) 32 in
      let e : trimmed b ≡ length b = eqb→eq (trimmed b) (length b) (and_right (leb (length b) w) (eqb (trimmed b) (length b)) t) in
      ap (λ (n : ℕ). take n (b ++ r)) (trimmed_spaces b (w - length b) ∙ e) ∙ take-append_seam b r

-- ---- a row of a table
pub row_width : (w : ℕ) (l : List String) → T (all_fitting w l) → (n : ℕ) → n < length l → length (get_or (map (padded w) l) n []) ≡ w
row_width w [] t n h = absurd (omega (arith, h))
row_width w (s ∷ l) t zero h = padded_width w s (and_left (is_fitting w s) (all_fitting w l) t)
row_width w (s ∷ l) t (suc n) h = row_width w l (and_right (is_fitting w s) (all_fitting w l) t) n (omega (arith, h))

pub row_text : (w : ℕ) (l : List String) → T (all_fitting w l) → (n : ℕ) → n < length l → (d : String)
    → take (trimmed (get_or (map (padded w) l) n [])) (get_or (map (padded w) l) n []) ≡ bytes_of (get_or l n d)
row_text w [] t n h d = absurd (omega (arith, h))
row_text w (s ∷ l) t zero h d = padded_text w s (and_left (is_fitting w s) (all_fitting w l) t)
row_text w (s ∷ l) t (suc n) h d = row_text w l (and_right (is_fitting w s) (all_fitting w l) t) n (omega (arith, h)) d

-- ---- the loop of `row_length`: behind n the row is spaces
pub record Trimming (row : List ℕ) (n : ℕ) : Type 0 where
  pub within : n ≤ length row
  pub rest : trimmed row ≡ trimmed (take n row)

last_space : (l : List ℕ) → trimmed (l ++ (32 ∷ [])) ≡ trimmed l
last_space l = trimmed_spaces l 1

last_other : (l : List ℕ) (c : ℕ) → (c ≡ 32 → ⊥) → trimmed (l ++ (c ∷ [])) ≡ suc (length l)
unfolding trimmed
last_other [] c o = rw (ne_eqb c 32 o)
last_other (x ∷ l) c o = rw (last_other l c o, ne_eqb (suc (length l)) 0 (λ z. omega (arith, z)))

pub trimming_start : (row : List ℕ) → Trimming row (length row)
trimming_start row = record { within = omega arith; rest = ap trimmed (sym (take_all (length row) row (omega arith))) }

module _ {row : List ℕ} {n : ℕ} (t : Trimming row n) where
  pub trimming_end : n ≤ 0 → n ≡ trimmed row
  unfolding trimmed
  trimming_end h = let z : n ≡ 0 = omega (arith, h) in z ∙ sym (t.rest ∙ ap (λ (k : ℕ). trimmed (take k row)) z)

  module _ (more : 0 < n) where
    taken : take n row ≡ take (n - 1) row ++ (get_or row (n - 1) 0 ∷ [])
    taken = let e : n ≡ suc (n - 1) = omega (arith, more) in ap (λ (k : ℕ). take k row) e ∙ take-suc row (n - 1) 0 (omega (arith, more, t.within))

    pub trimming_on : get_or row (n - 1) 0 ≡ 32 → Trimming row (n - 1)
    trimming_on h = record {
      within = omega (arith, t.within);
      rest = t.rest ∙ ap trimmed (taken ∙ ap (λ (c : ℕ). take (n - 1) row ++ (c ∷ [])) h) ∙ last_space (take (n - 1) row);
    }

    pub trimming_stop : (get_or row (n - 1) 0 ≡ 32 → ⊥) → n ≡ trimmed row
    trimming_stop h =
        omega (
          arith,
          more,
          t.within,
          t.rest ∙ ap trimmed taken ∙ last_other (take (n - 1) row) (get_or row (n - 1) 0) h,
          length-take-le (n - 1) row (omega (arith, t.within)),
        )

-- ---- the part of a row that is appended
pub row_part : (row : List ℕ) (n : ℕ) → n ≡ trimmed row → take (n - 0) row ≡ take (trimmed row) row
row_part row n e = let z : n - 0 ≡ trimmed row = omega (arith, e) in ap (λ (k : ℕ). take k row) z
