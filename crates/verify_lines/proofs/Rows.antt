-- The rows of a listing, for the proofs of the functions of `listed`. Assumes nothing.
use Prim.Native.Nat.{ℕ, ◌+◌, ◌-◌, ◌^◌, ◌≤◌, ◌<◌, min}
use native.Mathlib.Omega.{arith}
use mathlib.Core.Bool.{Bool, true, false, ◌&&◌}
use mathlib.Core.List.{List, [], ◌++◌, map, append-nil}
use mathlib.Core.Path.{◌≡◌, refl, sym, ap, ◌∙◌}
use lib.Dec.{ltb}
use lib.ListN.{length, take, drop, get_or, replicate, length-replicate, replicate-append-replicate}
use lib.Seq.{take_all, drop_at}
use borrow.Author.Tests.{lt-ltb, le-ltb, le-leb, ltb-true}
use Rattle.encoding.specs.Ranges.{AllBytes}
use Rattle.encoding.specs.Written.{written_at}
use Rattle.logic.proofs.Promises.{no_true, cases}
use Rattle.encoding.proofs.Promises.{written_read}
use Rattle.sizes.specs.Sizes.{expression_most}
use Rattle.isa.specs.Decode.{next}
use Rattle.isa.specs.Starts.{starts_from}
use Rattle.isa.proofs.Promises.{from_end, from_next}
use Rattle.std.proofs.Common.{Result, Ok}
use Rattle.verdict.specs.Verdict.{Verdict}
use Rattle.instruction_text.specs.Text.{text_at, is_instruction, written_answer, written_left}
use Rattle.listing.specs.Listing.{joined_lines}
use Rattle.instruction_text.specs.declared.writing.Unwritten.{Unwritten}
use Rattle.instruction_text.proofs.Promises.{text_length, instruction_inside}
use Rattle.verify_lines.specs.Verdict.{verdict_text, height_text}
use Rattle.verify_lines.specs.Listed.{gap_text, beside_text, row_text, is_listed_of, first_of, listed_text, is_accepted_of, answer_text}

-- ---- blanks
gap_from : (n : ℕ) → n ≤ 35 → take (36 - n) (drop n (replicate {A = ℕ} 36 32)) ≡ replicate (36 - n) 32
gap_from n h =
    let b : ℕ = 32 in
    let r = replicate (36 - n) b in
    let s : n + (36 - n) ≡ 36 = omega arith in
    let d : drop n (replicate 36 b) ≡ r = ap (λ (m : ℕ). drop n (replicate m b)) (sym s)
    ∙ ap (drop n) (sym (replicate-append-replicate n (36 - n) b))
    ∙ drop_at (replicate n b) r n (length-replicate n b) in
    ap (take (36 - n)) d ∙ take_all (36 - n) r (omega (arith, length-replicate {A = ℕ} (36 - n) 32))

pub gap_is : (n m : ℕ) → m ≡ min n 35 → take (36 - m) (drop m (replicate {A = ℕ} 36 32)) ≡ gap_text n
unfolding gap_text
gap_is n m q =
    cases n 35
    (λ h. let z : m ≡ n = omega arith in gap_from m (omega arith) ∙ rw (lt-ltb n 35 h) (ap (λ (j : ℕ). replicate {A = ℕ} (36 - j) 32) z))
    (λ h. let z : m ≡ 35 = omega arith in gap_from m (omega arith) ∙ rw (le-ltb n 35 h) (ap (λ (j : ℕ). replicate {A = ℕ} (36 - j) 32) z))

-- ---- a row
pub beside_parts : (l : List ℕ) (h n : ℕ) → n ≡ length l - 1 → take n l ++ gap_text n ++ height_text h ≡ beside_text l h
unfolding beside_text
beside_parts l h n q = ap (λ (j : ℕ). take j l ++ gap_text j ++ height_text h) q

pub row_accepted : (e : List ℕ) (h k : ℕ) → beside_text (text_at e k) h ≡ row_text e true h k
unfolding row_text
row_accepted e h k = refl

pub row_refused : (e : List ℕ) (h k : ℕ) → text_at e k ≡ row_text e false h k
unfolding row_text
row_refused e h k = refl

-- what `write_instruction` leaves in a buffer of 64 bytes
module _ (e : List ℕ) (low : AllBytes e) (k : ℕ) (h : k < 2 ^ 64) (i : is_instruction e k ≡ true) (o : List ℕ) (room : length o ≡ 64) where
  pub written_whole : written_answer e k o ≡ Ok (length (text_at e k))
  unfolding written_answer
  written_whole = rw (i, le-leb (length (text_at e k)) (length o) (omega (arith, text_length e low k h, room)))

  pub written_text : (r : Result ℕ Unwritten) (o' : List ℕ) → r ≡ written_answer e k o → o' ≡ written_left e k o → (n : ℕ) → r ≡ Ok n → take n o' ≡ text_at e k
  unfolding written_left
  written_text r o' p q n t =
      let l = length (text_at e k) in
      let s : ◌≡◌ {A = Result ℕ Unwritten} (Ok n) (Ok l) = sym t ∙ p ∙ written_whole in
      let m : n ≡ l = cc in
      let w : o' ≡ written_at o 0 (text_at e k) = rw written_whole at q in
      ap (λ (j : ℕ). take j o') m ∙ ap (take l) w ∙ written_read o 0 (text_at e k) (omega (arith, text_length e low k h, room))

-- ---- the offsets with a row
module _ (e : List ℕ) (k : ℕ) where
  pub listed_high : expression_most ≤ k → false ≡ is_listed_of e k
  unfolding is_listed_of
  listed_high h = rw (le-ltb k expression_most h)

  pub listed_low : k < expression_most → is_instruction e k ≡ is_listed_of e k
  unfolding is_listed_of
  listed_low h = rw (lt-ltb k expression_most h)

both : (a b : Bool) → a && b ≡ true → (a ≡ true) × (b ≡ true)
both true true q = (refl, refl)
both true false q = no_true q
both false b q = no_true q

pub record Listed (e : List ℕ) (k : ℕ) : Type 0 where
  pub low : k < expression_most
  pub whole : is_instruction e k ≡ true
  pub inside : k < length e

pub listed : (e : List ℕ) (k : ℕ) → is_listed_of e k ≡ true → Listed e k
unfolding is_listed_of
listed e k q =
    let b = both (ltb k expression_most) (is_instruction e k) q in
    record { low = ltb-true k expression_most b.0; whole = b.1; inside = instruction_inside e k b.1 }

-- ---- the rows of the starts from an offset on: one, and the rest; or none
unfoldable pub rows_from : List ℕ → List ℕ → Bool → ℕ → List ℕ
rows_from e hs a i = joined_lines (map (λ k. row_text e a (get_or hs k 0) k) (first_of (is_listed_of e) (starts_from e i)))

pub rows_all : (e hs : List ℕ) (a : Bool) → rows_from e hs a 0 ≡ listed_text e hs a
unfolding rows_from listed_text
rows_all e hs a = refl

module _ (e hs : List ℕ) (a : Bool) (k : ℕ) where
  pub rows_next : is_listed_of e k ≡ true → row_text e a (get_or hs k 0) k ++ rows_from e hs a (next e k) ≡ rows_from e hs a k
  unfolding rows_from first_of
  rows_next q = rw (from_next e k (listed e k q).inside, q)

  pub rows_end : is_listed_of e k ≡ false → [] ≡ rows_from e hs a k
  unfolding rows_from first_of
  rows_end q = cases k (length e) (λ h. rw (from_next e k h, q)) (λ h. rw (from_end e k h))

-- beside no row stands a height where the expression is refused
pub listed_none : (e hs : List ℕ) → listed_text e [] false ≡ listed_text e hs false
unfolding listed_text row_text
listed_none e hs = refl

-- ---- the whole answer, by the verdict v that the code has
module _ (e hs : List ℕ) (v w : Verdict) (is : v ≡ w) (b : Bool) where
  pub answer_alone : b ≡ false → verdict_text e v ≡ answer_text e w hs b
  unfolding answer_text
  answer_alone q = rw (q, is) (sym (append-nil (verdict_text e w)))

  pub answer_listed : b ≡ true → (a : Bool) → a ≡ is_accepted_of v → verdict_text e v ++ listed_text e hs a ≡ answer_text e w hs b
  unfolding answer_text
  answer_listed q a p = rw (q, p, is)
