-- A record from its bytes.
use mathlib.Core.Bool.{Bool, true, false, cond, ◌&&◌}
use mathlib.Core.List.{List, ◌∷◌, ◌++◌, append_assoc}
use mathlib.Core.Path.{◌≡◌, refl, ap, sym, ◌∙◌}
use Prim.Native.Nat.{ℕ, ◌+◌, ◌^◌, ◌≤◌, ◌<◌}
use native.Mathlib.Omega.{arith}
use lib.ListN.{length, get_or, take, drop, length-append, length-take, length-drop, take-append-drop}
use lib.Seq.{length-take-le, take-append_seam, drop-drop, drop-cons}
use lib.Dec.{T, leb, ltb, eqb, leb→le, ltb→lt, eqb→eq}
use borrow.Author.Tests.{le-leb, lt-ltb}
use Rattle.encoding.specs.LittleEndian.{little_bytes}
use Rattle.encoding.specs.Ranges.{AllBytes}
use Rattle.logic.proofs.Promises.{and_left, and_right}
use Rattle.encoding.proofs.Promises.{below_take, below_drop, little_of_bytes, little_below, bytes_of_little}
use Rattle.frames.specs.Record.{Record, memory, variable, encode, size, WellFormed, Decoded, found, broken, field, has, decode_memory, decode_variable, decode}

pub size_encode : (r : Record) → length (encode r) ≡ size r
unfolding encode little_bytes
size_encode (memory address bytes) = omega arith
size_encode (variable number value) = refl

pub has_all : (n : ℕ) (l : List ℕ) → n ≤ length l → has n l ≡ true
has_all n l h = le-leb n (length (take n l)) (omega (arith, length-take-le n l h))

has_enough : (n : ℕ) (l : List ℕ) → T (has n l) → n ≤ length l
has_enough n l t = let h = leb→le n (length (take n l)) t in omega (arith, length-take n l)

-- ---- a record that was encoded
pub decode_encode : (r : Record) (rest : List ℕ) → WellFormed r → decode (encode r ++ rest) ≡ found r
unfolding encode decode decode_memory decode_variable little_bytes
decode_encode (memory address bytes) rest w =
    let l = encode (memory address bytes) ++ rest in
    let count : field l 9 2 ≡ length bytes = little_of_bytes 2 (length bytes) (omega (arith, w.most)) in
    let at : field l 1 8 ≡ address = little_of_bytes 8 address w.address_fits in
    let held : has (length bytes) (bytes ++ rest) ≡ true = has_all (length bytes) (bytes ++ rest) (omega (arith, length-append bytes rest)) in
    rw (count, at, le-leb 1 (length bytes) w.some, held) (ap (λ bs. found (memory address bs)) (take-append_seam bytes rest))
decode_encode (variable number value) rest w =
    let l = encode (variable number value) ++ rest in
    let which : field l 1 4 ≡ number = little_of_bytes 4 number (omega (arith, w.number_fits)) in
    let what : field l 5 8 ≡ value = little_of_bytes 8 value w.value_fits in
    rw (which, what, lt-ltb number 64 w.number_fits)

-- ---- a record that was found
pub chosen : {A : Type 0} (P : A → Type 0) (t : Bool) {x y : A} → (T t → P x) → P y → P (cond t x y)
chosen P true f g = f tt
chosen P false f g = g

-- what the bytes l have in front where a record is found there
pub record FoundMemory (l : List ℕ) (n : ℕ) : Type 0 where
  pub mark : get_or l 0 0 ≡ 0x4d
  pub some : 1 ≤ n
  pub fits : 11 + n ≤ length l

pub record FoundVariable (l : List ℕ) : Type 0 where
  pub mark : get_or l 0 0 ≡ 0x56
  pub low : field l 1 4 < 64
  pub fits : 13 ≤ length l

module _ (l : List ℕ) where
  -- what the tests say
  pub memory_fits : T (has 11 l && leb 1 (field l 9 2) && has (field l 9 2) (drop 11 l)) → (1 ≤ field l 9 2) × (11 + field l 9 2 ≤ length l)
  memory_fits t =
      let t₁ = and_left (has 11 l && leb 1 (field l 9 2)) (has (field l 9 2) (drop 11 l)) t in
      let head = has_enough 11 l (and_left (has 11 l) (leb 1 (field l 9 2)) t₁) in
      let tail = has_enough (field l 9 2) (drop 11 l) (and_right (has 11 l && leb 1 (field l 9 2)) (has (field l 9 2) (drop 11 l)) t) in
      (leb→le 1 (field l 9 2) (and_right (has 11 l) (leb 1 (field l 9 2)) t₁), omega (arith, length-drop 11 l))

  pub variable_fits : T (has 13 l && ltb (field l 1 4) 64) → (field l 1 4 < 64) × (13 ≤ length l)
  variable_fits t =
      (ltb→lt (field l 1 4) 64 (and_right (has 13 l) (ltb (field l 1 4) 64) t), has_enough 13 l (and_left (has 13 l) (ltb (field l 1 4) 64) t))

  memory_facts : T (eqb (get_or l 0 0) 0x4d) → T (has 11 l && leb 1 (field l 9 2) && has (field l 9 2) (drop 11 l)) → FoundMemory l (field l 9 2)
  memory_facts m t = record { mark = eqb→eq (get_or l 0 0) 0x4d m; some = (memory_fits t).0; fits = (memory_fits t).1 }

  variable_facts : T (eqb (get_or l 0 0) 0x56) → T (has 13 l && ltb (field l 1 4) 64) → FoundVariable l
  variable_facts m t = record { mark = eqb→eq (get_or l 0 0) 0x56 m; low = (variable_fits t).0; fits = (variable_fits t).1 }

  -- a property of what is decoded, from the three ways to it
  pub by_decode : (P : Decoded → Type 0)
      → (FoundMemory l (field l 9 2) → P (found (memory (field l 1 8) (take (field l 9 2) (drop 11 l)))))
      → (FoundVariable l → P (found (variable (field l 1 4) (field l 5 8))))
      → P broken
      → P (decode l)
  unfolding decode decode_memory decode_variable
  by_decode P f g b =
      chosen P (eqb (get_or l 0 0) 0x4d)
      (λ m. chosen P (has 11 l && leb 1 (field l 9 2) && has (field l 9 2) (drop 11 l)) (λ t. f (memory_facts m t)) b)
      (chosen P (eqb (get_or l 0 0) 0x56)
      (λ m. chosen P (has 13 l && ltb (field l 1 4) 64) (λ t. g (variable_facts m t)) b)
      b)

  pub taken : 11 + field l 9 2 ≤ length l → length (take (field l 9 2) (drop 11 l)) ≡ field l 9 2
  taken h = length-take-le (field l 9 2) (drop 11 l) (omega (arith, length-drop 11 l))

-- a record that is found has at least one byte, and all its bytes are there
abbrev pub InFront : List ℕ → Decoded → Type 0
InFront l (found r) = (1 ≤ size r) × (size r ≤ length l)
InFront l broken = Unit {0}

pub in_front : (l : List ℕ) → InFront l (decode l)
in_front l = by_decode l (InFront l) (λ m. (omega arith, omega (arith, taken l m.fits, m.fits))) (λ v. (omega arith, v.fits)) tt

pub found_fits : (l : List ℕ) {r : Record} → decode l ≡ found r → (1 ≤ size r) × (size r ≤ length l)
found_fits l e = rw e at (in_front l)

-- ---- and its encoding is the bytes that it was found in
pub piece : (l : List ℕ) (i n : ℕ) → drop i l ≡ take n (drop i l) ++ drop (i + n) l
piece l i n = sym (take-append-drop n (drop i l)) ∙ ap (λ t. take n (drop i l) ++ t) (drop-drop n i l)

module _ (l : List ℕ) (bytes : AllBytes l) (i n : ℕ) where
  piece_bytes : AllBytes (take n (drop i l))
  piece_bytes = below_take 256 n (drop i l) (below_drop 256 i l bytes)

  module _ (h : i + n ≤ length l) where
    piece_length : length (take n (drop i l)) ≡ n
    piece_length = length-take-le n (drop i l) (omega (arith, length-drop i l))

    pub field_below : field l i n < 256 ^ n
    field_below = rw piece_length at (little_below (take n (drop i l)) piece_bytes)

    pub field_bytes : little_bytes n (field l i n) ≡ take n (drop i l)
    field_bytes = rw piece_length at (bytes_of_little (take n (drop i l)) piece_bytes)

pub mark_first : (l : List ℕ) (m : ℕ) → 0 < length l → get_or l 0 0 ≡ m → l ≡ m ∷ drop 1 l
mark_first l m h e = drop-cons l 0 0 h ∙ ap (λ x. x ∷ drop 1 l) e

joined : (a b c d : List ℕ) → (a ++ (b ++ c)) ++ d ≡ a ++ (b ++ (c ++ d))
joined a b c d = simp append_assoc

abbrev Again : List ℕ → Decoded → Type 0
Again l (found r) = WellFormed r × (l ≡ encode r ++ drop (size r) l)
Again l broken = Unit {0}

module _ (l : List ℕ) (bytes : AllBytes l) where
  memory_again : FoundMemory l (field l 9 2) → Again l (found (memory (field l 1 8) (take (field l 9 2) (drop 11 l))))
  unfolding encode
  memory_again m =
      let n = field l 9 2 in
      let body = take n (drop 11 l) in
      let long : length body ≡ n = taken l m.fits in
      let whole : l ≡ 0x4d ∷ (take 8 (drop 1 l) ++ (take 2 (drop 9 l) ++ (body ++ drop (11 + n) l))) =
      mark_first l 0x4d (omega (arith, m.fits)) m.mark
      ∙ ap (λ t. 0x4d ∷ t) (piece l 1 8 ∙ ap (λ t. take 8 (drop 1 l) ++ t) (piece l 9 2 ∙ ap (λ t. take 2 (drop 9 l) ++ t) (piece l 11 n))) in (
        record { address_fits = field_below l bytes 1 8 (omega (arith, m.fits)); some = rw long m.some; most = rw long (omega (arith, field_below l bytes 9 2 (omega (arith, m.fits)))) },
        whole ∙ sym (rw (long, field_bytes l bytes 1 8 (omega (arith, m.fits)), field_bytes l bytes 9 2 (omega (arith, m.fits)))
            (ap (λ t. 0x4d ∷ t) (joined (take 8 (drop 1 l)) (take 2 (drop 9 l)) body (drop (11 + n) l)))),
      )

  variable_again : FoundVariable l → Again l (found (variable (field l 1 4) (field l 5 8)))
  unfolding encode
  variable_again v =
      let whole : l ≡ 0x56 ∷ (take 4 (drop 1 l) ++ (take 8 (drop 5 l) ++ drop 13 l)) =
      mark_first l 0x56 (omega (arith, v.fits)) v.mark
      ∙ ap (λ t. 0x56 ∷ t) (piece l 1 4 ∙ ap (λ t. take 4 (drop 1 l) ++ t) (piece l 5 8)) in (
        record { number_fits = v.low; value_fits = field_below l bytes 5 8 (omega (arith, v.fits)) },
        whole ∙ sym (rw (field_bytes l bytes 1 4 (omega (arith, v.fits)), field_bytes l bytes 5 8 (omega (arith, v.fits)))
            (ap (λ t. 0x56 ∷ t) (append_assoc (take 4 (drop 1 l)) (take 8 (drop 5 l)) (drop 13 l)))),
      )

  pub encode_decode : {r : Record} → decode l ≡ found r → WellFormed r × (l ≡ encode r ++ drop (size r) l)
  encode_decode e = rw e at (by_decode l (Again l) memory_again variable_again tt)
