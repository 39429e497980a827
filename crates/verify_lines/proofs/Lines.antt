-- The bytes of an expression line by line, for the proofs of the functions of `bytes`. Assumes nothing.
use Prim.Native.Nat.{ℕ, zero, suc, ◌+◌, ◌*◌, ◌/◌, ◌≤◌, ◌<◌, min}
use native.Mathlib.Omega.{arith}
use mathlib.Core.List.{List, [], ◌∷◌, ◌++◌, append-nil}
use mathlib.Core.Path.{◌≡◌, refl, sym, ap, ◌∙◌}
use lib.ListN.{length, take, drop, length-drop, length-append, take-append-drop, drop_of_length-le}
use lib.Seq.{take_all}
use Rattle.std.proofs.Math.Seq.{take-append_seam, drop-append_seam}
use Rattle.std.proofs.lemmas.List.{nil_from_length}
use borrow.Author.Tests.{eq-eqb, ne_eqb}
use Rattle.logic.proofs.Promises.{cases}
use Rattle.hexadecimal.specs.Hex.{hex_of}
use Rattle.text_buffer.specs.Text.{bytes_of}
use Rattle.verify_lines.specs.Bytes.{bytes_line, bytes_lines, bytes_text}

-- ---- any number of lines that is enough is the same
lines_none : (n : ℕ) (l : List ℕ) → length l ≡ 0 → [] ≡ bytes_lines n l
unfolding bytes_lines
lines_none zero l z = refl
lines_none (suc n) l z = rw (eq-eqb (length l) 0 z)

lines_some : (n : ℕ) (l : List ℕ) → 0 < length l → bytes_line (take 40 l) ++ bytes_lines n (drop 40 l) ≡ bytes_lines (suc n) l
unfolding bytes_lines
lines_some n l h = rw (ne_eqb (length l) 0 (λ z. omega arith))

lines_enough : (n m : ℕ) (l : List ℕ) → length l ≤ n → length l ≤ m → bytes_lines n l ≡ bytes_lines m l
lines_enough zero m l h g = sym (lines_none zero l (omega arith)) ∙ lines_none m l (omega arith)
lines_enough (suc n) zero l h g = sym (lines_none (suc n) l (omega arith)) ∙ lines_none zero l (omega arith)
lines_enough (suc n) (suc m) l h g =
    cases 0 (length l)
    (λ s. sym (lines_some n l s)
    ∙ ap (λ (t : List ℕ). bytes_line (take 40 l) ++ t) (lines_enough n m (drop 40 l) (omega (arith, length-drop 40 l)) (omega (arith, length-drop 40 l)))
    ∙ lines_some m l s)
    (λ z. sym (lines_none (suc n) l (omega arith)) ∙ lines_none (suc m) l (omega arith))

-- ---- a part in front that is short only where less is left
module _ (l part rest : List ℕ) (p : l ≡ part ++ rest) (n : length part ≡ min 40 (length l)) where
  sizes : length l ≡ length part + length rest
  sizes = ap length p ∙ length-append part rest

  part_taken : take 40 l ≡ part
  part_taken =
      cases (length part) 40
      (λ h. take_all 40 l (omega (arith, sizes)) ∙ p ∙ ap (λ (r : List ℕ). part ++ r) (nil_from_length rest (omega (arith, sizes))) ∙ append-nil part)
      (λ h. let z : 40 ≡ length part = omega arith in ap (take 40) p ∙ ap (λ (j : ℕ). take j (part ++ rest)) z ∙ take-append_seam part rest)

  part_dropped : drop 40 l ≡ rest
  part_dropped =
      cases (length part) 40
      (λ h. drop_of_length-le l {i = 40} (omega (arith, sizes)) ∙ sym (nil_from_length rest (omega (arith, sizes))))
      (λ h. let z : 40 ≡ length part = omega arith in ap (drop 40) p ∙ ap (λ (j : ℕ). drop j (part ++ rest)) z ∙ drop-append_seam part rest)

-- ---- a line, and the rest
bytes_none : (l : List ℕ) → length l ≡ 0 → [] ≡ bytes_text l
unfolding bytes_text
bytes_none l z = lines_none (length l) l z

bytes_some : (l : List ℕ) → 0 < length l → bytes_line (take 40 l) ++ bytes_text (drop 40 l) ≡ bytes_text l
unfolding bytes_text
bytes_some l h =
    ap (λ (t : List ℕ). bytes_line (take 40 l) ++ t) (lines_enough (length (drop 40 l)) (length l) (drop 40 l) (omega arith) (omega (arith, length-drop 40 l)))
    ∙ lines_some (length l) l h
    ∙ lines_enough (suc (length l)) (length l) l (omega arith) (omega arith)

-- a line comes off the front, and is short only where less is left
pub bytes_part : (l part rest : List ℕ) → l ≡ part ++ rest → length part ≡ min 40 (length l) → 0 < length l → bytes_line part ++ bytes_text rest ≡ bytes_text l
bytes_part l part rest p n h =
    ap (λ (t : List ℕ). bytes_line t ++ bytes_text rest) (sym (part_taken l part rest p n))
    ∙ ap (λ (t : List ℕ). bytes_line (take 40 l) ++ bytes_text t) (sym (part_dropped l part rest p n))
    ∙ bytes_some l h

pub bytes_end : (l : List ℕ) → length l ≡ 0 → [] ≡ bytes_text l
bytes_end = bytes_none

-- ---- how long they are: two characters a byte, and seven more a line
hex_length : (l : List ℕ) → length (hex_of l) ≡ 2 * length l
unfolding hex_of
hex_length [] = refl
hex_length (b ∷ l) = omega (arith, hex_length l)

line_length : (l : List ℕ) → length (bytes_line l) ≡ 2 * length l + 7
unfolding bytes_line
line_length l = omega (arith, hex_length l, length-append (bytes_of "bytes " ++ hex_of l) (bytes_of "\n"), length-append (bytes_of "bytes ") (hex_of l))

lines_length : (n : ℕ) (l : List ℕ) → length l ≤ n → length (bytes_text l) ≡ 2 * length l + 7 * ((length l + 39) / 40)
lines_length zero l h = omega (arith, ap length (bytes_none l (omega arith)))
lines_length (suc n) l h =
    cases 0 (length l)
    (λ s. omega (
      arith,
      ap length (bytes_some l s),
      length-append (bytes_line (take 40 l)) (bytes_text (drop 40 l)),
      line_length (take 40 l),
      ap length (take-append-drop 40 l),
      length-append (take 40 l) (drop 40 l),
      length-drop 40 l,
      lines_length n (drop 40 l) (omega (arith, length-drop 40 l)),
    ))
    (λ z. omega (arith, ap length (bytes_none l (omega arith))))

pub bytes_length : (e : List ℕ) → length (bytes_text e) ≡ 2 * length e + 7 * ((length e + 39) / 40)
bytes_length e = lines_length (length e) e (omega arith)
