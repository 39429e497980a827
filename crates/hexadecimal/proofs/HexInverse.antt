-- A text of lower-case hexadecimal digits is what the bytes that it spells are written as. Assumes nothing.
use Prim.Native.Nat.{ℕ, zero, suc, ◌+◌, ◌-◌, ◌*◌, ◌/◌, ◌%◌, ◌≤◌, ◌<◌}
use native.Mathlib.Nat.{mod-lt, div-add-mod'}
use native.Mathlib.Omega.{arith}
use mathlib.Core.Bool.{Bool, true, false, cond}
use mathlib.Core.Path.{◌≡◌, refl, sym, ap, subst, ◌∙◌}
use mathlib.Core.List.{List, [], ◌∷◌, ◌++◌}
use lib.Dec.{leb, lit<}
use lib.ListN.{length}
use borrow.Author.Tests.{leb-true}
use Rattle.io.specs.Digits.{hex_digit_ascii}
use Rattle.hexadecimal.specs.Hex.{is_between, digit_of, is_lower, all_lower, HexReading, whole, with_bytes, read_past_of, read_from, pair_of, hex_of}
use Rattle.hexadecimal.proofs.Hexing.{inside, above}
use Rattle.hexadecimal.proofs.HexWriting.{glyph_low, glyph_high, pair_is, pair_read}

both : (a b : Bool) → cond a b false ≡ true → (a ≡ true) × (b ≡ true)
both true b e = (refl, e)
both false b e = let z : ◌≡◌ {A = ℕ} 0 1 = cc in absurd (omega arith)

is_between_lem : (a b c : ℕ) → is_between a b c ≡ true → (a ≤ c) × (c ≤ b)
is_between_lem a b c e = let p = both (leb a c) (leb c b) e in (leb-true a c p.0, leb-true c b p.1)

-- ---- a lower-case digit is the glyph of its value
abbrev Digit : ℕ → Type 0
Digit c = (digit_of c < 16) × (c ≡ hex_digit_ascii (digit_of c))

lower_number : (c : ℕ) → 48 ≤ c → c ≤ 57 → Digit c
unfolding digit_of
lower_number c g h =
    let d : digit_of c ≡ c - 48 = rw (inside 48 57 c g h) in
    let e : c ≡ 48 + digit_of c = omega (arith, d) in
    (omega (arith, d), e ∙ glyph_low (digit_of c) (omega (arith, d)))

lower_letter : (c : ℕ) → 97 ≤ c → c ≤ 102 → Digit c
unfolding digit_of
lower_letter c g h =
    let d : digit_of c ≡ c - 87 = rw (above 48 57 c (omega arith), above 65 70 c (omega arith), inside 97 102 c g h) in
    let e : c ≡ 87 + digit_of c = omega (arith, d) in
    (omega (arith, d), e ∙ glyph_high (digit_of c) (omega (arith, d)))

lower_by : (c : ℕ) (t : Bool) → is_between 48 57 c ≡ t → cond t true (is_between 97 102 c) ≡ true → Digit c
lower_by c true p e = let b = is_between_lem 48 57 c p in lower_number c b.0 b.1
lower_by c false p e = let b = is_between_lem 97 102 c e in lower_letter c b.0 b.1

lower_digit : (c : ℕ) → is_lower c ≡ true → Digit c
unfolding is_lower
lower_digit c e = lower_by c (is_between 48 57 c) refl e

-- ---- two digits are what their byte is written as
module _ (h l : ℕ) (low : l < 16) where
  high_part : (h * 16 + l) / 16 ≡ h
  high_part = omega (arith, div-add-mod' (h * 16 + l) 16, mod-lt (h * 16 + l) (lit< {m = 0} {n = 16} tt))

  low_part : (h * 16 + l) % 16 ≡ l
  low_part = omega (arith, div-add-mod' (h * 16 + l) 16, mod-lt (h * 16 + l) (lit< {m = 0} {n = 16} tt))

lower_pair : (a b : ℕ) → Digit a → Digit b → a ∷ b ∷ [] ≡ pair_of (digit_of a * 16 + digit_of b)
lower_pair a b p q =
    pair_is (digit_of a * 16 + digit_of b) a b
    (p.1 ∙ ap hex_digit_ascii (sym (high_part (digit_of a) (digit_of b) q.0)))
    (q.1 ∙ ap hex_digit_ascii (sym (low_part (digit_of a) (digit_of b) q.0)))

-- ---- the whole text, two characters at a time
abbrev Back : List ℕ → HexReading → Type 0
Back t r = (r.end ≡ whole) × (hex_of r.bytes ≡ t)

back_pair : (p room x : ℕ) (t : List ℕ) → x < 256 → Back t (read_from (p + 2) room t) → Back (pair_of x ++ t) (read_from p (suc room) (pair_of x ++ t))
unfolding hex_of
back_pair p room x t h b =
    let r = read_from (p + 2) room t in
    let e : read_from p (suc room) (pair_of x ++ t) ≡ with_bytes (x ∷ []) r = pair_read p room x t h in
    (ap (λ (s : HexReading). s.end) e ∙ b.0, ap (λ (s : HexReading). hex_of s.bytes) e ∙ ap (λ (m : List ℕ). pair_of x ++ m) b.1)

pub write_back : (p room n : ℕ) (t : List ℕ) → all_lower t ≡ true → length t ≡ 2 * n → n ≤ room → Back t (read_from p room t)
unfolding all_lower hex_of read_past_of
write_back p room n [] low e h = (refl, refl)
write_back p room n (a ∷ []) low e h = absurd (omega (arith, e))
write_back p room zero (a ∷ b ∷ t) low e h = absurd (omega (arith, e))
write_back p zero (suc n) (a ∷ b ∷ t) low e h = absurd (omega (arith, h))
write_back p (suc room) (suc n) (a ∷ b ∷ t) low e h =
    let f = both (is_lower a) (all_lower (b ∷ t)) low in
    let g = both (is_lower b) (all_lower t) f.1 in
    let da = lower_digit a f.0 in
    let db = lower_digit b g.0 in
    let x = digit_of a * 16 + digit_of b in
    let same : pair_of x ++ t ≡ a ∷ b ∷ t = sym (ap (λ (m : List ℕ). m ++ t) (lower_pair a b da db)) in
    let rest = write_back (p + 2) room n t g.1 (omega (arith, e)) (omega (arith, h)) in
    subst (λ (s : List ℕ). Back s (read_from p (suc room) s)) same (back_pair p room x t (omega (arith, da.0, db.0)) rest)
