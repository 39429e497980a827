-- Laws of the lines that show bytes, for the proofs of the functions of `dump`, and that the bytes are read back.
-- Assumes nothing.
use Rattle.std.proofs.Common.{◌≡◌, ℕ, zero, suc, ◌+◌, ◌-◌, ◌*◌, ◌%◌, ◌^◌, ◌<◌, ◌≤◌, min, List, [], ◌∷◌, ◌++◌, length, get_or, take, drop, sym, refl, ap, ◌∙◌, append_assoc, add-one, arith, length-append, length-take, take_all, drop-cons, take-take, drop-drop, take_at, drop_at, le-ltb, lt-ltb, le-leb}
use lib.Seq.{take-nil}
use borrow.Author.Tests.{lt-leb}
use Rattle.encoding.specs.Ranges.{AllBytes}
use Rattle.logic.proofs.Promises.{cases}
use Rattle.io.specs.Digits.{last_digits}
use Rattle.hexadecimal.specs.Hex.{whole, with_bytes, read_from, pair_of}
use Rattle.text_buffer.specs.Text.{bytes_of}
use Rattle.text_buffer.proofs.Promises.{drop_out}
use Rattle.hexadecimal.proofs.Promises.{nothing_read, blank_read, pair_read}
use Rattle.reader.specs.NextRecord.{Memory}
use Rattle.phrases.specs.Numbers.{hex_text}
use Rattle.phrases.proofs.Promises.{digits_length}
use Rattle.frame_lines.specs.Dump.{cell, column, shown_byte, shown, dump_line, dump_text}

-- ---- a character
module _ (b : ℕ) where
  pub shown_low : b < 32 → 46 ≡ shown_byte b
  unfolding shown_byte
  shown_low h = rw (lt-leb 32 b h)

  pub shown_itself : 32 ≤ b → b < 127 → b ≡ shown_byte b
  unfolding shown_byte
  shown_itself h k = let j : b ≤ 126 = omega arith in rw (le-leb 32 b h, le-leb b 126 j)

  pub shown_high : 127 ≤ b → 46 ≡ shown_byte b
  unfolding shown_byte
  shown_high h = let k : 32 ≤ b = omega arith in let j : 126 < b = omega arith in rw (le-leb 32 b k, lt-leb b 126 j)

module _ (l : List ℕ) (i : ℕ) where
  next_drop : drop 1 (drop i l) ≡ drop (i + 1) l
  next_drop = drop-drop 1 i l

  -- ---- a cell
  pub cell_none : length l ≤ i → bytes_of "   " ≡ cell (drop i l)
  cell_none h = rw (drop_out i l h)

  pub cell_some : i < length l → bytes_of " " ++ pair_of (get_or l i 0) ≡ cell (drop i l)
  cell_some h = rw (drop-cons l i 0 h)

  -- ---- the cells from place i on
  abbrev pub cells_from : List ℕ
  cells_from = column (16 - i) (drop i l)

  pub cells_part : i < 16 → cell (drop i l) ++ column (16 - (i + 1)) (drop (i + 1) l) ≡ cells_from
  unfolding column
  cells_part h =
      let k = 16 - (i + 1) in
      let e : suc k ≡ 16 - i = omega (arith, h) in
      ap (λ (m : List ℕ). cell (drop i l) ++ column k m) (sym next_drop) ∙ ap (λ (j : ℕ). column j (drop i l)) e

  pub cells_end : 16 ≤ i → [] ≡ cells_from
  unfolding column
  cells_end h = let e : 0 ≡ 16 - i = omega (arith, h) in ap (λ (j : ℕ). column j (drop i l)) e

  -- ---- the characters from place i on
  pub shown_part : i < length l → (x : ℕ) → x ≡ shown_byte (get_or l i 0) → (x ∷ []) ++ shown (drop (i + 1) l) ≡ shown (drop i l)
  unfolding shown
  shown_part h x e = ap (λ (y : ℕ). y ∷ shown (drop (i + 1) l)) e ∙ ap shown (sym (drop-cons l i 0 h ∙ ap (λ (j : ℕ). get_or l i 0 ∷ drop j l) (sym (add-one i))))

  pub shown_end : length l ≤ i → [] ≡ shown (drop i l)
  unfolding shown
  shown_end h = rw (drop_out i l h)

-- ---- the bytes of a line
drop_take : (m : List ℕ) (o n : ℕ) → drop o (take n m) ≡ take (n - o) (drop o m)
drop_take m zero n = let e : n ≡ n - 0 = omega arith in ap (λ (j : ℕ). take j m) e
drop_take [] (suc o) zero = sym (take-nil (0 - suc o))
drop_take [] (suc o) (suc n) = sym (take-nil (suc n - suc o))
drop_take (x ∷ m) (suc o) zero = let e : 0 ≡ 0 - suc o = omega arith in ap (λ (j : ℕ). take j (drop o m)) e
drop_take (x ∷ m) (suc o) (suc n) = let e : n - o ≡ suc n - suc o = omega arith in drop_take m o n ∙ ap (λ (j : ℕ). take j (drop o m)) e

module _ (l : List ℕ) (p n o k : ℕ) (inside : o < n) (is : k ≡ min 16 (n - o)) where
  pub line_part : take (p + o + k - (p + o)) (drop (p + o) l) ≡ take 16 (drop o (take n (drop p l)))
  line_part =
      let m = drop (p + o) l in
      let e : p + o + k - (p + o) ≡ k = omega arith in
      let d : drop o (take n (drop p l)) ≡ take (n - o) m = drop_take (drop p l) o n ∙ ap (take (n - o)) (drop-drop o p l) in
      let t = length-take (n - o) m in
      ap (λ (j : ℕ). take j m) e
      ∙ cases (n - o) 16
      (λ h.
      let f : k ≡ n - o = omega (arith, is, h) in
      ap (λ (j : ℕ). take j m) f ∙ sym (take_all 16 (take (n - o) m) (omega (arith, t, h))))
      (λ g.
      let f : k ≡ 16 = omega (arith, is, g) in
      ap (λ (j : ℕ). take j m) f ∙ sym (take-take 16 (n - o) m g))
      ∙ ap (take 16) (sym d)

  pub dump_some : (a next first : ℕ) → first ≡ (a + o) % 2 ^ 64 → dump_line first (take (p + o + k - (p + o)) (drop (p + o) l)) ≡ dump_text l (Memory a n p next) o
  unfolding dump_text
  dump_some a next first f =
      ap (λ (x : ℕ). dump_line x (take (p + o + k - (p + o)) (drop (p + o) l))) f
      ∙ ap (dump_line ((a + o) % 2 ^ 64)) line_part
      ∙ sym (rw (lt-ltb o n inside))

pub dump_past : (l : List ℕ) (a n p next o : ℕ) → n ≤ o → [] ≡ dump_text l (Memory a n p next) o
unfolding dump_text
dump_past l a n p next o h = rw (le-ltb o n h)

-- ---- what the column shows is read back
pub column_back : (p room n : ℕ) (l : List ℕ) → AllBytes l → length l ≤ n → length l ≤ room
    → read_from p room (column n l) ≡ record { bytes = l; end = whole }
unfolding column
column_back p room zero [] low h g = nothing_read p room
column_back p room zero (b ∷ l) low h g = absurd (omega (arith, h))
column_back p room (suc n) [] low h g =
    blank_read p room (32 ∷ 32 ∷ column n [])
    ∙ blank_read (p + 1) room (32 ∷ column n [])
    ∙ blank_read (p + 1 + 1) room (column n [])
    ∙ column_back (p + 1 + 1 + 1) room n [] low (omega arith) g
column_back p zero (suc n) (b ∷ l) low h g = absurd (omega (arith, g))
column_back p (suc room) (suc n) (b ∷ l) low h g =
    blank_read p (suc room) (pair_of b ++ column n l)
    ∙ pair_read (p + 1) room b (column n l) (low 0)
    ∙ ap (with_bytes (b ∷ [])) (column_back (p + 1 + 2) room n l (λ j. low (suc j)) (omega (arith, h)) (omega (arith, g)))

-- ---- where the column stands in the line
cell_length : (l : List ℕ) → length (cell l) ≡ 3
cell_length [] = refl
cell_length (b ∷ l) = refl

column_length : (n : ℕ) (l : List ℕ) → length (column n l) ≡ 3 * n
unfolding column
column_length zero l = refl
column_length (suc n) l = length-append (cell l) (column n (drop 1 l)) ∙ omega (arith, cell_length l, column_length n (drop 1 l))

pub column_in_line : (a : ℕ) (l : List ℕ) → take 48 (drop 21 (dump_line a l)) ≡ column 16 l
unfolding dump_line hex_text
column_in_line a l =
    let p = bytes_of "    " ++ last_digits 16 16 a ++ bytes_of " " in
    let c = column 16 l in
    let r = bytes_of "  |" ++ (shown l ++ bytes_of "|\n") in
    let n : length p ≡ 21 = length-append (bytes_of "    " ++ last_digits 16 16 a) (bytes_of " ") ∙ omega (arith, length-append (bytes_of "    ") (last_digits 16 16 a), digits_length 16 16 a) in
    let e : p ++ c ++ bytes_of "  |" ++ shown l ++ bytes_of "|\n" ≡ p ++ (c ++ r)
    = append_assoc (p ++ c ++ bytes_of "  |") (shown l) (bytes_of "|\n") ∙ append_assoc (p ++ c) (bytes_of "  |") (shown l ++ bytes_of "|\n") ∙ append_assoc p c r in
    ap (λ (m : List ℕ). take 48 (drop 21 m)) e ∙ ap (take 48) (drop_at p (c ++ r) 21 n) ∙ take_at c r 48 (column_length 16 l)
