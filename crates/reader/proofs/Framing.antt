-- A frame, read: one law for each way out of the code, and what is known of it.
use mathlib.Core.List.{List, ◌++◌}
use mathlib.Core.Path.{◌≡◌, refl, ap, sym, ◌∙◌}
use Prim.Native.Nat.{ℕ, ◌+◌, ◌≤◌}
use native.Mathlib.Omega.{arith}
use lib.ListN.{length, take, drop, length-take, length-drop}
use lib.Seq.{take-add, drop-drop}
use Rattle.sizes.specs.Sizes.{buffer_most}
use Rattle.refusals.specs.Numbers.{record_broken}
use Rattle.refusals.specs.Refusal.{Refusal, refusal}
use Rattle.encoding.specs.Ranges.{AllBytes}
use Rattle.encoding.proofs.Promises.{below_take, below_drop}
use Rattle.frames.specs.declared.Tag.{Tag}
use Rattle.frames.specs.Record.{Record, encode_all, AllWellFormed}
use Rattle.frames.specs.Division.{Division, records, broken_at, divide}
use Rattle.frames.specs.Trailer.{trailer_size, TagFits}
use Rattle.frames.specs.Frame.{encode_frame}
use Rattle.frames.proofs.Promises.{divided_encoded, divided_length, frame_length, encode_trailer_lem}
use Rattle.reader.specs.Located.{Located, frame, refused, located}
use Rattle.reader.specs.Framed.{FrameRead, frame_read, refused_frame, framed_by, framed_at_of, framed}
use Rattle.reader.specs.Read.{record_in, reading, refused_read, count_in, counting, refused_count}
use Rattle.reader.proofs.Locating.{located_inside, located_closed}

-- where its records do not divide
pub framed_broken : (l : List ℕ) {k : ℕ} → divide l ≡ broken_at k → (t : Tag) (s : ℕ) → refused_frame (refusal record_broken (s + k)) ≡ framed_by t s (divide l)
framed_broken l e t s = ap (framed_by t s) (sym e)

-- ---- from a frame that was located
module _ (l : List ℕ) (used number : ℕ) where
  framed_refused : {r : Refusal} → refused r ≡ located l used number → refused_frame r ≡ framed l used number
  unfolding framed
  framed_refused e = ap (framed_at_of l) e

  pub read_refused : (i : ℕ) {r : Refusal} → refused r ≡ located l used number → refused_read r ≡ reading l used number i
  unfolding reading
  read_refused i e = ap (record_in i) (framed_refused e)

  pub count_refused : {r : Refusal} → refused r ≡ located l used number → refused_count r ≡ counting l used number
  unfolding counting
  count_refused e = ap count_in (framed_refused e)

  module _ {t : Tag} {s n : ℕ} (e : frame t s n ≡ located l used number) where
    -- the part of the buffer that is lent is the frame's records
    framed_frame : framed_by t s (divide (take n (drop s l))) ≡ framed l used number
    unfolding framed
    framed_frame = ap (framed_at_of l) e

    pub read_frame : (i : ℕ) → record_in i (framed_by t s (divide (take n (drop s l)))) ≡ reading l used number i
    unfolding reading
    read_frame i = ap (record_in i) framed_frame

    pub count_frame : count_in (framed_by t s (divide (take n (drop s l)))) ≡ counting l used number
    unfolding counting
    count_frame = ap count_in framed_frame

    pub lent_length : length (take n (drop s l)) ≡ n
    lent_length = omega (arith, located_inside l used number e, length-take n (drop s l), length-drop s l)

-- ---- a frame that was read: its records are exactly the bytes that its trailer counts
pub record Exact (l : List ℕ) (used number : ℕ) (t : Tag) (s : ℕ) (rs : List Record) : Type 0 where
  pub place : located l used number ≡ frame t s (length (encode_all rs))
  pub division : divide (take (length (encode_all rs)) (drop s l)) ≡ records rs

module _ (l : List ℕ) (used number : ℕ) where
  abbrev IsExact : FrameRead → Type 0
  IsExact (frame_read t s rs) = Exact l used number t s rs
  IsExact (refused_frame r) = Unit {0}

  exact_by : (t : Tag) (s n : ℕ) → frame t s n ≡ located l used number → (d : Division) → divide (take n (drop s l)) ≡ d → IsExact (framed_by t s d)
  exact_by t s n e (records rs) d =
      let long : n ≡ length (encode_all rs) =
      omega (arith, divided_length (take n (drop s l)) d, located_inside l used number e, length-take n (drop s l), length-drop s l) in
      record { place = sym e ∙ ap (frame t s) long; division = rw (← long) d }
  exact_by t s n e (broken_at k) d = tt

  exact_at : (x : Located) → x ≡ located l used number → IsExact (framed_at_of l x)
  exact_at (frame t s n) e = exact_by t s n e (divide (take n (drop s l))) refl
  exact_at (refused r) e = tt

  is_exact : IsExact (framed l used number)
  unfolding framed
  is_exact = exact_at (located l used number) refl

  module _ {t : Tag} {s : ℕ} {rs : List Record} (q : framed l used number ≡ frame_read t s rs) where
    exact : Exact l used number t s rs
    exact = rw q at is_exact

    pub framed_located : located l used number ≡ frame t s (length (encode_all rs))
    framed_located = exact.place

    pub framed_division : divide (take (length (encode_all rs)) (drop s l)) ≡ records rs
    framed_division = exact.division

    pub framed_inside : (s + length (encode_all rs) + trailer_size ≤ length l) × (length l ≤ buffer_most)
    framed_inside = located_inside l used number (sym framed_located)

    module _ (bytes : AllBytes l) where
      part_bytes : (n o : ℕ) → AllBytes (take n (drop o l))
      part_bytes n o = below_take 256 n (drop o l) (below_drop 256 o l bytes)

      pub framed_records : AllWellFormed rs × (take (length (encode_all rs)) (drop s l) ≡ encode_all rs)
      framed_records = divided_encoded (take (length (encode_all rs)) (drop s l)) (part_bytes (length (encode_all rs)) s) rs exact.division

      -- its trailer stands behind its records
      pub framed_bytes : TagFits t × (take (length (encode_frame t rs)) (drop s l) ≡ encode_frame t rs)
      unfolding encode_frame
      framed_bytes =
          let n = length (encode_all rs) in
          let closed = encode_trailer_lem (take trailer_size (drop (s + n) l)) (part_bytes trailer_size (s + n)) (located_closed l used number (sym framed_located)) in (
            closed.0,
            ap (λ k. take k (drop s l)) (frame_length t rs) ∙ take-add n trailer_size (drop s l)
                ∙ ap (λ p. p ++ take trailer_size (drop n (drop s l))) framed_records.1
                ∙ ap (λ p. encode_all rs ++ p) (ap (take trailer_size) (drop-drop n s l) ∙ closed.2),
          )
