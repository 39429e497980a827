-- What `record_size` and `read_record` answer, one law for each way out.
use mathlib.Core.Bool.{Bool, true, false, ◌&&◌}
use mathlib.Core.List.{List, ◌∷◌}
use mathlib.Core.Logic.{◌≢◌}
use mathlib.Core.Path.{◌≡◌, refl, ap, sym}
use Prim.Native.Nat.{ℕ, ◌+◌, ◌≤◌, ◌<◌}
use native.Mathlib.Omega.{arith}
use lib.ListN.{length, get_or, drop, length-drop}
use lib.Seq.{drop-cons}
use lib.Dec.{T, leb, ltb, eqb, eqb→eq}
use borrow.Author.Tests.{le-leb, lt-ltb}
use Rattle.std.proofs.Common.{Some, None, IsSome}
use Rattle.encoding.specs.LittleEndian.{little_endian}
use Rattle.frames.specs.Record.{Record, Decoded, found, broken, field, has, decode_memory, decode_variable, decode, size}
use Rattle.frames.specs.Joining.Answers.{size_of, Tells}
use Rattle.frames.specs.declared.Record.TheVariants.{Memory, Variable}
use Rattle.frames.proofs.Decoding.{has_all, taken, memory_fits, variable_fits, FoundMemory, FoundVariable, by_decode}

-- a test that does not hold
pub fails : (t : Bool) → (T t → ⊥) → t ≡ false
fails true f = absurd (f tt)
fails false f = refl

module _ (l : List ℕ) where
  pub no_memory : (1 ≤ field l 9 2 → 11 + field l 9 2 ≤ length l → ⊥) → None ≡ size_of (decode_memory l)
  unfolding decode_memory
  no_memory f =
      rw (fails (has 11 l && leb 1 (field l 9 2) && has (field l 9 2) (drop 11 l)) (λ t. f (memory_fits l t).0 (memory_fits l t).1))

  pub a_memory : 1 ≤ field l 9 2 → 11 + field l 9 2 ≤ length l → Some (11 + field l 9 2) ≡ size_of (decode_memory l)
  unfolding decode_memory
  a_memory s h =
      let some : leb 1 (field l 9 2) ≡ true = le-leb 1 (field l 9 2) s in
      let head : has 11 l ≡ true = has_all 11 l (omega arith) in
      let tail : has (field l 9 2) (drop 11 l) ≡ true = has_all (field l 9 2) (drop 11 l) (omega (arith, length-drop 11 l)) in
      rw (head, some, tail, taken l h)

  pub no_variable : (field l 1 4 < 64 → 13 ≤ length l → ⊥) → None ≡ size_of (decode_variable l)
  unfolding decode_variable
  no_variable f =
      rw (fails (has 13 l && ltb (field l 1 4) 64) (λ t. f (variable_fits l t).0 (variable_fits l t).1))

  pub a_variable : field l 1 4 < 64 → 13 ≤ length l → Some 13 ≡ size_of (decode_variable l)
  unfolding decode_variable
  a_variable s h =
      let head : has 13 l ≡ true = has_all 13 l h in
      let low : ltb (field l 1 4) 64 ≡ true = lt-ltb (field l 1 4) 64 s in
      rw (head, low)

  -- a number below 64 is its first byte
  low_number : 1 < length l → field l 1 4 < 64 → get_or l 1 0 ≡ field l 1 4
  unfolding little_endian
  low_number h k = let e : drop 1 l ≡ get_or l 1 0 ∷ drop 2 l = drop-cons l 1 0 h in rw e (omega (arith, rw e at k))

  pub memory_mark : get_or l 0 0 ≡ 0x4d → decode l ≡ decode_memory l
  unfolding decode
  memory_mark e = rw e

  pub variable_mark : get_or l 0 0 ≡ 0x56 → decode l ≡ decode_variable l
  unfolding decode
  variable_mark e = rw e

  pub other_mark : get_or l 0 0 ≢ 0x4d → get_or l 0 0 ≢ 0x56 → None ≡ size_of (decode l)
  unfolding decode
  other_mark m v =
      rw (fails (eqb (get_or l 0 0) 0x4d) (λ t. m (eqb→eq (get_or l 0 0) 0x4d t)), fails (eqb (get_or l 0 0) 0x56) (λ t. v (eqb→eq (get_or l 0 0) 0x56 t)))

  -- ---- a record that is there
  module _ (h : IsSome (size_of (decode l))) where
    by_kind : {X : Type 0} → (FoundMemory l (field l 9 2) → X) → (FoundVariable l → X) → X
    by_kind {X} f g = by_decode l (λ d. IsSome (size_of d) → X) (λ m k. f m) (λ v k. g v) (λ k. cc) h

    pub some_there : 0 < length l
    some_there = by_kind (λ m. omega (arith, m.fits)) (λ v. omega (arith, v.fits))

    pub memory_there : get_or l 0 0 ≡ 0x4d → FoundMemory l (field l 9 2)
    memory_there e = by_kind (λ m. m) (λ v. absurd (omega (arith, v.mark)))

    pub variable_there : get_or l 0 0 ≢ 0x4d → FoundVariable l
    variable_there e = by_kind (λ m. absurd (e m.mark)) (λ v. v)

    pub tells_memory : get_or l 0 0 ≡ 0x4d → Tells (Memory (field l 1 8) (field l 9 2)) (decode l)
    tells_memory e =
        by_decode l (λ d. IsSome (size_of d) → Tells (Memory (field l 1 8) (field l 9 2)) d)
        (λ m k. ap (Memory (field l 1 8)) (sym (taken l m.fits))) (λ v k. absurd (omega (arith, v.mark))) (λ k. cc) h

    pub tells_variable : get_or l 0 0 ≢ 0x4d → Tells (Variable (get_or l 1 0) (field l 5 8)) (decode l)
    tells_variable e =
        by_decode l (λ d. IsSome (size_of d) → Tells (Variable (get_or l 1 0) (field l 5 8)) d)
        (λ m k. absurd (e m.mark)) (λ v k. ap (λ n. Variable n (field l 5 8)) (low_number (omega (arith, v.fits)) v.low)) (λ k. cc) h

-- a record is found, and the answer is its size; or none is, and there is no answer
pub by_size : {X : Type 0} (d : Decoded) → (d ≡ broken → size_of d ≡ None → X) → ((r : Record) → d ≡ found r → size_of d ≡ Some (size r) → X) → X
by_size (found r) f g = g r refl refl
by_size broken f g = f refl refl
