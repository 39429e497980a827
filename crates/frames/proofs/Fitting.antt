-- What a writer answers and leaves, and a writer that is lent the free part of a buffer.
use mathlib.Core.Bool.{Bool, true, false, cond, ◌&&◌}
use mathlib.Core.List.{List, [], ◌∷◌, ◌++◌}
use mathlib.Core.Path.{◌≡◌, refl, ap, sym, ◌∙◌}
use Prim.Native.Nat.{ℕ, ◌+◌, ◌-◌, ◌≤◌, ◌<◌}
use native.Mathlib.Omega.{arith}
use lib.ListN.{length, take, drop, set}
use lib.Dec.{leb}
use Rattle.std.proofs.Common.{Option, Some, None}
use borrow.Author.Tests.{le-leb, lt-leb, leb-true, leb-false}
use Rattle.encoding.specs.LittleEndian.{little_bytes}
use Rattle.encoding.specs.Written.{written_at}
use Rattle.logic.proofs.Promises.{cases}
use Rattle.encoding.proofs.Promises.{written_store, written_more, part_length, part_written, part_same}
use Rattle.frames.specs.Record.{Record, memory, variable, encode, encode_all, WellFormed}
use Rattle.frames.specs.Trailer.{encode_trailer}
use Rattle.frames.specs.declared.Tag.{Tag}
use Rattle.frames.specs.Frame.{encode_frame}
use Rattle.frames.specs.Writing.{written, encodable}
use Rattle.frames.specs.Joining.Answers.{Leaves, PutWhole}
use Rattle.frames.proofs.Dividing.{encode_all_more}

-- ---- the cases of a writer's code
module _ (b : Bool) (l : List ℕ) (u : ℕ) (e : List ℕ) where
  pub leaves_all : b ≡ true → {n : ℕ} → n ≡ length e → u + n ≤ length l → {m : List ℕ} → m ≡ written_at l u e → Leaves (written b l u e) (Some n) m
  unfolding written
  leaves_all f c h s =
      let fits = le-leb (u + length e) (length l) (omega arith) in
      record { answer = rw (f, fits, c); bytes = rw (f, fits, s) }

  pub leaves_unformed : b ≡ false → Leaves (written b l u e) None l
  unfolding written
  leaves_unformed f = record { answer = rw f; bytes = rw f }

pub leaves_none : (b : Bool) (l : List ℕ) (u : ℕ) (e : List ℕ) → length l < u + length e → Leaves (written b l u e) None l
unfolding written
leaves_none true l u e h = let short = lt-leb (u + length e) (length l) h in record { answer = rw short; bytes = rw short }
leaves_none false l u e h = record { answer = refl; bytes = refl }

-- ---- what an answer says
both : (a b : Bool) → a && b ≡ true → b ≡ true
both true b h = h
both false b h = let z : ◌≡◌ {A = ℕ} 0 1 = cc in absurd (omega arith)

abbrev chosen : Bool → List ℕ → ℕ → List ℕ → Option ℕ × List ℕ
chosen t l u e = cond t (Some (length e), written_at l u e) (None, l)

module _ (b : Bool) (l : List ℕ) (u : ℕ) (e : List ℕ) where
  whole_by : (t : Bool) → b && leb (u + length e) (length l) ≡ t → {r : Option ℕ} {m : List ℕ} → Leaves (chosen t l u e) r m → {n : ℕ} → r ≡ Some n → PutWhole l u e n m
  whole_by true h w c = record {
    fits = leb-true (u + length e) (length l) (both b (leb (u + length e) (length l)) h);
    count = let q = w.answer in cc;
    bytes = w.bytes;
  }
  whole_by false h w c = let q = w.answer in let z : ◌≡◌ {A = ℕ} 0 1 = cc in absurd (omega arith)

  pub wrote : {r : Option ℕ} {m : List ℕ} → Leaves (written b l u e) r m → {n : ℕ} → r ≡ Some n → PutWhole l u e n m
  unfolding written
  wrote w c = whole_by (b && leb (u + length e) (length l)) refl w c

  full_by : (t : Bool) → b && leb (u + length e) (length l) ≡ t → {r : Option ℕ} {m : List ℕ} → Leaves (chosen t l u e) r m → r ≡ None → (b ≡ true → length l < u + length e) × (m ≡ l)
  full_by true h w c = let q = w.answer in let z : ◌≡◌ {A = ℕ} 0 1 = cc in absurd (omega arith)
  full_by false h w c = (λ f. leb-false (u + length e) (length l) (rw f at h), w.bytes)

  pub full : {r : Option ℕ} {m : List ℕ} → Leaves (written b l u e) r m → r ≡ None → (b ≡ true → length l < u + length e) × (m ≡ l)
  unfolding written
  full w c = full_by (b && leb (u + length e) (length l)) refl w c

-- ---- a writer that is lent the free part of a buffer
module _ (b : Bool) (l : List ℕ) (u : ℕ) (e : List ℕ) (h : u ≤ length l) where
  same_test : leb (0 + length e) (length (take (length l - u) (drop u l))) ≡ leb (u + length e) (length l)
  same_test =
      let n = length (take (length l - u) (drop u l)) in
      let q : n ≡ length l - u = part_length l u in
      cases (length l) (u + length e) (λ k. lt-leb (0 + length e) n (omega arith) ∙ sym (lt-leb (u + length e) (length l) k))
      (λ k. le-leb (0 + length e) n (omega arith) ∙ sym (le-leb (u + length e) (length l) k))

  lent_by : (t : Bool) {r : Option ℕ} {p : List ℕ} → Leaves (chosen t (take (length l - u) (drop u l)) 0 e) r p
      → Leaves (chosen t l u e) r (take u l ++ (p ++ drop (length l - u) (drop u l)))
  lent_by true w = record { answer = w.answer; bytes = rw w.bytes (part_written l u h e) }
  lent_by false w = record { answer = w.answer; bytes = rw w.bytes (part_same l u h) }

  pub lent : {r : Option ℕ} {p : List ℕ} → Leaves (written b (take (length l - u) (drop u l)) 0 e) r p
      → Leaves (written b l u e) r (take u l ++ (p ++ drop (length l - u) (drop u l)))
  unfolding written
  lent w = lent_by (b && leb (u + length e) (length l)) (rw same_test at w)

-- ---- what the writes of `write_memory` and `write_variable` leave
pub memory_holds : (f : List ℕ) (a : ℕ) (bs : List ℕ)
    → written_at (written_at (written_at (set f 0 0x4d) 1 (little_bytes 8 a)) 9 (little_bytes 2 (length bs))) 11 bs ≡ written_at f 0 (encode (memory a bs))
unfolding encode little_bytes
memory_holds f a bs =
    ap (λ l. written_at (written_at (written_at l 1 (little_bytes 8 a)) 9 (little_bytes 2 (length bs))) 11 bs) (written_store f 0 0x4d)
    ∙ ap (λ l. written_at (written_at l 9 (little_bytes 2 (length bs))) 11 bs) (written_more f 0 (0x4d ∷ []) (little_bytes 8 a))
    ∙ ap (λ l. written_at l 11 bs) (written_more f 0 (0x4d ∷ little_bytes 8 a) (little_bytes 2 (length bs)))
    ∙ written_more f 0 (0x4d ∷ (little_bytes 8 a ++ little_bytes 2 (length bs))) bs

pub variable_holds : (f : List ℕ) (i v : ℕ) → written_at (written_at (set f 0 0x56) 1 (little_bytes 4 i)) 5 (little_bytes 8 v) ≡ written_at f 0 (encode (variable i v))
unfolding encode little_bytes
variable_holds f i v =
    ap (λ l. written_at (written_at l 1 (little_bytes 4 i)) 5 (little_bytes 8 v)) (written_store f 0 0x56)
    ∙ ap (λ l. written_at l 5 (little_bytes 8 v)) (written_more f 0 (0x56 ∷ []) (little_bytes 4 i))
    ∙ written_more f 0 (0x56 ∷ little_bytes 4 i) (little_bytes 8 v)

-- ---- a record behind others, and the trailer behind them all
module _ (l : List ℕ) (u : ℕ) (rs : List Record) where
  pub record_behind : (r : Record) → written_at (written_at l u (encode_all rs)) (u + length (encode_all rs)) (encode r) ≡ written_at l u (encode_all (rs ++ (r ∷ [])))
  record_behind r = written_more l u (encode_all rs) (encode r) ∙ ap (λ e. written_at l u e) (sym (encode_all_more rs r))

  pub trailer_behind : (t : Tag)
      → written_at (written_at l u (encode_all rs)) (u + length (encode_all rs)) (encode_trailer t (length (encode_all rs))) ≡ written_at l u (encode_frame t rs)
  unfolding encode_frame
  trailer_behind t = written_more l u (encode_all rs) (encode_trailer t (length (encode_all rs)))

pub well_formed_encodable : (r : Record) → WellFormed r → encodable r ≡ true
well_formed_encodable (memory address bytes) w = le-leb (length bytes) 65535 w.most
well_formed_encodable (variable number value) w = refl
