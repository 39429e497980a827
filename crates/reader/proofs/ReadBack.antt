-- A frame that was written behind the used bytes is the newest, and the older ones are read as before, one number
-- higher.
use mathlib.Core.List.{List, [], ◌∷◌, ◌++◌, append_assoc}
use mathlib.Core.Path.{◌≡◌, refl, ap, sym, ◌∙◌}
use Prim.Native.Nat.{ℕ, zero, suc, ◌+◌, ◌-◌, ◌≤◌}
use native.Mathlib.Nat.{add-zero, add_assoc}
use native.Mathlib.Omega.{arith}
use lib.ListN.{length, take, drop, length-append, length-drop, take-append-drop}
use lib.Seq.{length-take-le, take-append_seam, drop-append_seam, take-append-le, drop-append-le, drop-drop, take_at, drop_at}
use Rattle.std.proofs.Common.{Some}
use Rattle.encoding.specs.Written.{written_at}
use Rattle.logic.proofs.Promises.{cases}
use Rattle.encoding.proofs.Promises.{written_length, written_form}
use Rattle.encoding.specs.LittleEndian.{little_bytes}
use Rattle.frames.specs.Record.{Record, memory, encode, size, encode_all, AllWellFormed}
use Rattle.frames.specs.Division.{divide, records}
use Rattle.frames.specs.declared.Tag.{Tag}
use Rattle.frames.specs.Trailer.{trailer_size, TagFits, encode_trailer, decode_trailer}
use Rattle.frames.specs.Frame.{encode_frame}
use Rattle.frames.specs.Joining.Answers.{ending_of}
use Rattle.frames.specs.declared.trailer.Trailer.{Trailer}
use Rattle.frames.proofs.Promises.{length_encode, encode_all_append, frame_length, trailer_length, decode_trailer_lem, divide_all}
use Rattle.reader.specs.Located.{Located, frame, refused, frame_before, older, frame_back, located}
use Rattle.refusals.specs.Numbers.{no_such_record}
use Rattle.refusals.specs.Refusal.{refusal}
use Rattle.sizes.specs.Sizes.{buffer_most}
use Rattle.reader.specs.Framed.{frame_read, framed_at_of, framed}
use Rattle.reader.specs.Read.{refused_read, told, record_read, record_in, reading, counted, count_in, counting}
use Rattle.reader.proofs.Splitting.{unnumbered}
use Rattle.reader.proofs.Locating.{nothing_left, too_short, frame_there, Ends, frame_ends, Upto, back_upto, back_begins}

-- ---- buffers that agree on their first u bytes
-- a part of the front is a part of the whole
pub part_front : (l : List ℕ) (u s n : ℕ) → u ≤ length l → s + n ≤ u → take n (drop s (take u l)) ≡ take n (drop s l)
part_front l u s n h k =
    let p = take u l in
    let long : length p ≡ u = length-take-le u l h in
    sym (take-append-le n (drop s p) (drop u l) (omega (arith, length-drop s p)))
    ∙ ap (take n) (sym (drop-append-le s p (drop u l) (omega arith)) ∙ ap (drop s) (take-append-drop u l))

module _ (l m : List ℕ) (u : ℕ) (same : take u l ≡ take u m) (hl : u ≤ length l) (hm : u ≤ length m) where
  part_same : (s n : ℕ) → s + n ≤ u → take n (drop s l) ≡ take n (drop s m)
  part_same s n h = sym (part_front l u s n hl h) ∙ ap (λ p. take n (drop s p)) same ∙ part_front m u s n hm h

  before_same : (end : ℕ) → end ≤ u → frame_before l end ≡ frame_before m end
  unfolding frame_before
  before_same end h =
      cases end trailer_size
      (λ k. cases 0 end (λ p. sym (too_short l end p k) ∙ too_short m end p k) (λ p. sym (nothing_left l end (omega arith)) ∙ nothing_left m end (omega arith)))
      (λ k. rw (part_same (end - trailer_size) trailer_size (omega arith)))

  older_same : (f g : ℕ → Located) (end : ℕ) → ((s : ℕ) → s ≤ end → f s ≡ g s) → (x : Located) → Ends end x → older f x ≡ older g x
  older_same f g end e (frame t s n) w = e s (omega arith)
  older_same f g end e (refused r) w = refl

  back_same : (number end : ℕ) → end ≤ u → frame_back l number end ≡ frame_back m number end
  unfolding frame_back
  back_same zero end h = before_same end h
  back_same (suc number) end h =
      older_same (λ s. frame_back l number s) (λ s. frame_back m number s) end (λ s k. back_same number s (omega arith)) (frame_before l end) (frame_ends l end)
      ∙ ap (older (λ s. frame_back m number s)) (before_same end h)

  framed_same : (x : Located) → Upto u x → framed_at_of l x ≡ framed_at_of m x
  unfolding Upto
  framed_same (frame t s n) w = rw (part_same s n (omega (arith, w)))
  framed_same (refused r) w = refl

-- ---- a record among others
told_at : (t : Tag) (s o : ℕ) (before : List Record) (r : Record) (behind : List Record)
    → record_read t s o (length before) (before ++ (r ∷ behind)) ≡ told t (o + length (encode_all before)) r
unfolding encode_all
told_at t s o [] r behind = ap (λ k. told t k r) (sym (add-zero o))
told_at t s o (q ∷ before) r behind =
    told_at t s (o + size q) before r behind
    ∙ ap (λ k. told t k r) (rw (length-append (encode q) (encode_all before), length_encode q, add_assoc))

-- the bytes of a memory record stand behind its header
pub header_skipped : (a : ℕ) (bytes rest : List ℕ) → take (length bytes) (drop 11 (encode (memory a bytes) ++ rest)) ≡ bytes
unfolding encode little_bytes
header_skipped a bytes rest = take-append_seam bytes rest

-- ---- a frame of these records, written at u
module _ (l : List ℕ) (u : ℕ) (t : Tag) (rs : List Record) (small : length l ≤ buffer_most) (fits : u + length (encode_frame t rs) ≤ length l) (low : TagFits t) where
  abbrev after : List ℕ
  after = written_at l u (encode_frame t rs)

  abbrev end : ℕ
  end = u + length (encode_frame t rs)

  abbrev long : ℕ
  long = length (encode_all rs)

  frame_long : length (encode_frame t rs) ≡ long + trailer_size
  frame_long = frame_length t rs

  after_long : length after ≡ length l
  after_long = written_length l u (encode_frame t rs)

  rest_bytes : List ℕ
  rest_bytes = drop end l

  from_front : drop u after ≡ encode_frame t rs ++ rest_bytes
  unfolding rest_bytes
  from_front = ap (drop u) (written_form l u (encode_frame t rs) fits) ∙ drop_at (take u l) _ u (length-take-le u l (omega arith))

  front_same : take u l ≡ take u after
  front_same = sym (ap (take u) (written_form l u (encode_frame t rs) fits) ∙ take_at (take u l) _ u (length-take-le u l (omega arith)))

  from_records : drop u after ≡ encode_all rs ++ (encode_trailer t long ++ rest_bytes)
  unfolding encode_frame
  from_records = from_front ∙ append_assoc (encode_all rs) (encode_trailer t long) rest_bytes

  records_there : take long (drop u after) ≡ encode_all rs
  records_there = ap (take long) from_records ∙ take-append_seam (encode_all rs) _

  trailer_there : take trailer_size (drop (u + long) after) ≡ encode_trailer t long
  trailer_there =
      ap (take trailer_size) (sym (drop-drop long u after) ∙ ap (drop long) from_records ∙ drop-append_seam (encode_all rs) _)
      ∙ take_at (encode_trailer t long) rest_bytes trailer_size (trailer_length t long)

  newest_before : frame_before after end ≡ frame t u long
  newest_before =
      let n : end - trailer_size ≡ u + long = omega (arith, frame_long) in
      let m : end - (end - trailer_size) ≡ trailer_size = omega (arith, frame_long) in
      let s : end - trailer_size - long ≡ u = omega (arith, frame_long) in
      let closed : Trailer = record { tag = t; length = long } in
      let closes : Some closed ≡ ending_of (decode_trailer (take (end - (end - trailer_size)) (drop (end - trailer_size) after))) =
      sym (rw (m, n, trailer_there) (ap ending_of (decode_trailer_lem t long low (omega (arith, frame_long))))) in
      sym (frame_there after end (omega (arith, frame_long)) (omega (arith, frame_long)) closes refl (omega (arith, frame_long))) ∙ ap (λ k. frame t k long) s

  located_after : (number : ℕ) → located after end number ≡ frame_back after number end
  located_after number = (back_begins after end number (omega (arith, after_long)) (omega (arith, after_long))).same

  pub newest_located : located after end 0 ≡ frame t u long
  unfolding frame_back
  newest_located = located_after 0 ∙ newest_before

  pub older_located : (number : ℕ) → located after end (suc number) ≡ located l u number
  unfolding frame_back
  older_located number =
      located_after (suc number) ∙ ap (older (λ s. frame_back after number s)) newest_before
      ∙ sym (back_same l after u front_same (omega arith) (omega (arith, after_long)) number u (omega arith))
      ∙ sym (back_begins l u number small (omega arith)).same

  located_upto : (number : ℕ) → Upto u (located l u number)
  located_upto number = rw (back_begins l u number small (omega arith)).same (back_upto l number u)

  -- the frames that were there before
  pub older_framed : (number : ℕ) → framed after end (suc number) ≡ framed l u number
  unfolding framed
  older_framed number =
      ap (framed_at_of after) (older_located number)
      ∙ sym (framed_same l after u front_same (omega arith) (omega (arith, after_long)) (located l u number) (located_upto number))

  pub older_reading : (number i : ℕ) → reading after end (suc number) i ≡ reading l u number i
  unfolding reading
  older_reading number i = ap (record_in i) (older_framed number)

  pub older_counting : (number : ℕ) → counting after end (suc number) ≡ counting l u number
  unfolding counting
  older_counting number = ap count_in (older_framed number)

  -- the newest
  module _ (well : AllWellFormed rs) where
    divided : divide (take long (drop u after)) ≡ records rs
    divided = ap divide records_there ∙ divide_all rs well

    pub newest_framed : framed after end 0 ≡ frame_read t u rs
    unfolding framed
    newest_framed = rw (newest_located, divided)

    newest_reading : (i : ℕ) → reading after end 0 i ≡ record_read t u u i rs
    unfolding reading
    newest_reading i = ap (record_in i) newest_framed

    -- each record, by its number
    pub newest_record : (before : List Record) (r : Record) (behind : List Record) → rs ≡ before ++ (r ∷ behind)
        → reading after end 0 (length before) ≡ told t (u + length (encode_all before)) r
    newest_record before r behind e =
        newest_reading (length before) ∙ ap (record_read t u u (length before)) e ∙ told_at t u u before r behind

    pub newest_past : (i : ℕ) → length rs ≤ i → reading after end 0 i ≡ refused_read (refusal no_such_record u)
    newest_past i h = newest_reading i ∙ sym (unnumbered t u u i rs h)

    pub newest_counting : counting after end 0 ≡ counted t u long (length rs)
    unfolding counting
    newest_counting = ap count_in newest_framed

  -- the bytes at the place that is told are those recorded
  pub newest_bytes : (before : List Record) (a : ℕ) (bytes : List ℕ) (behind : List Record) → rs ≡ before ++ (memory a bytes ∷ behind)
      → take (length bytes) (drop (u + length (encode_all before) + 11) after) ≡ bytes
  unfolding encode_all rest_bytes
  newest_bytes before a bytes behind e =
      let o = length (encode_all before) in
      let rest = encode_all behind ++ (encode_trailer t long ++ drop end l) in
      let parted : encode_all rs ≡ encode_all before ++ (encode (memory a bytes) ++ encode_all behind) = ap encode_all e ∙ encode_all_append before (memory a bytes ∷ behind) in
      let all : drop u after ≡ encode_all before ++ (encode (memory a bytes) ++ rest) =
      from_records ∙ ap (λ p. p ++ (encode_trailer t long ++ drop end l)) parted
      ∙ append_assoc (encode_all before) _ _ ∙ ap (λ p. encode_all before ++ p) (append_assoc (encode (memory a bytes)) _ _) in
      ap (take (length bytes))
      (sym (drop-drop 11 (u + o) after) ∙ ap (drop 11) (sym (drop-drop o u after) ∙ ap (drop o) all ∙ drop-append_seam (encode_all before) _))
      ∙ header_skipped a bytes rest
