-- The trailer.
use mathlib.Core.Bool.{◌&&◌}
use mathlib.Core.List.{List, [], ◌∷◌, ◌++◌, append-nil}
use mathlib.Core.Path.{◌≡◌, refl, ap, sym, ◌∙◌}
use Prim.Native.Nat.{ℕ, ◌+◌, ◌^◌, ◌<◌}
use native.Mathlib.Omega.{arith}
use lib.ListN.{length, get_or, take, drop, set, length-append, drop_of_length-le}
use lib.Seq.{drop-cons}
use lib.Dec.{eqb, eqb→eq}
use Rattle.encoding.specs.LittleEndian.{little_bytes}
use Rattle.encoding.specs.Written.{written_at}
use Rattle.encoding.specs.Ranges.{AllBytes}
use Rattle.logic.proofs.Promises.{and_left, and_right}
use Rattle.encoding.proofs.Promises.{little_of_bytes, written_store, written_more}
use Rattle.frames.specs.Record.{Record, encode_all, field}
use Rattle.frames.specs.Frame.{encode_frame}
use Rattle.frames.specs.declared.Tag.{Tag}
use Rattle.frames.specs.Trailer.{trailer_size, tag_of, TagFits, encode_trailer, TrailerRead, trailer, broken_trailer, decode_trailer}
use Rattle.frames.specs.Joining.Answers.{ending_of}
use Rattle.std.proofs.Common.{Some, None}
use Rattle.frames.proofs.Reading.{fails}
use Rattle.frames.proofs.Decoding.{chosen, piece, mark_first, field_below, field_bytes}

pub tag_fits : {t : ℕ} → t < 2 ^ 16 → TagFits (tag_of t)
tag_fits h = record { tracepoint_fits = h }

pub trailer_length : (t : Tag) (n : ℕ) → length (encode_trailer t n) ≡ trailer_size
unfolding encode_trailer little_bytes
trailer_length t n = refl

pub frame_length : (t : Tag) (rs : List Record) → length (encode_frame t rs) ≡ length (encode_all rs) + trailer_size
unfolding encode_frame
frame_length t rs = length-append (encode_all rs) (encode_trailer t (length (encode_all rs))) ∙ ap (λ n. length (encode_all rs) + n) (trailer_length t (length (encode_all rs)))

pub decode_trailer_lem : (t : Tag) (n : ℕ) → TagFits t → n < 2 ^ 32 → decode_trailer (encode_trailer t n) ≡ trailer t n
unfolding encode_trailer decode_trailer little_bytes
decode_trailer_lem t n h k =
    let l = encode_trailer t n in
    let which : field l 2 2 ≡ t.tracepoint = little_of_bytes 2 t.tracepoint h.tracepoint_fits in
    let long : field l 4 4 ≡ n = little_of_bytes 4 n k in
    rw (which, long)

abbrev Again : List ℕ → TrailerRead → Type 0
Again l (trailer t n) = TagFits t × (n < 2 ^ 32) × (l ≡ encode_trailer t n)
Again l broken_trailer = Unit {0}

module _ (l : List ℕ) (bytes : AllBytes l) where
  trailer_again : length l ≡ 8 → get_or l 0 0 ≡ 0x46 → get_or l 1 0 ≡ 0x00 → Again l (trailer (tag_of (field l 2 2)) (field l 4 4))
  unfolding encode_trailer
  trailer_again long mark second =
      let rest : drop 4 l ≡ take 4 (drop 4 l) = piece l 4 4 ∙ ap (λ t. take 4 (drop 4 l) ++ t) (drop_of_length-le l {i = 8} (omega arith)) ∙ append-nil (take 4 (drop 4 l)) in
      let head : drop 1 l ≡ 0x00 ∷ drop 2 l = drop-cons l 1 0 (omega arith) ∙ ap (λ x. x ∷ drop 2 l) second in
      let whole : l ≡ 0x46 ∷ 0x00 ∷ (take 2 (drop 2 l) ++ take 4 (drop 4 l)) =
      mark_first l 0x46 (omega arith) mark ∙ ap (λ t. 0x46 ∷ t) (head ∙ ap (λ t. 0x00 ∷ t) (piece l 2 2 ∙ ap (λ t. take 2 (drop 2 l) ++ t) rest)) in (
        record { tracepoint_fits = field_below l bytes 2 2 (omega arith) },
        field_below l bytes 4 4 (omega arith),
        whole ∙ sym (rw (field_bytes l bytes 2 2 (omega arith), field_bytes l bytes 4 4 (omega arith))),
      )

  by_decode : Again l (decode_trailer l)
  unfolding decode_trailer
  by_decode =
      let a = eqb (length l) trailer_size in
      let b = eqb (get_or l 0 0) 0x46 in
      let c = eqb (get_or l 1 0) 0x00 in
      chosen (Again l) (a && b && c)
      (λ t. trailer_again
      (eqb→eq (length l) trailer_size (and_left a b (and_left (a && b) c t)))
      (eqb→eq (get_or l 0 0) 0x46 (and_right a b (and_left (a && b) c t)))
      (eqb→eq (get_or l 1 0) 0x00 (and_right (a && b) c t)))
      tt

  pub encode_trailer_lem : {t : Tag} {n : ℕ} → decode_trailer l ≡ trailer t n → TagFits t × (n < 2 ^ 32) × (l ≡ encode_trailer t n)
  encode_trailer_lem e = rw e at by_decode

-- ---- what `read_trailer` answers
module _ (l : List ℕ) where
  pub no_trailer : (length l ≡ trailer_size → get_or l 0 0 ≡ 0x46 → get_or l 1 0 ≡ 0x00 → ⊥) → None ≡ ending_of (decode_trailer l)
  unfolding decode_trailer
  no_trailer f =
      let a = eqb (length l) trailer_size in
      let b = eqb (get_or l 0 0) 0x46 in
      let c = eqb (get_or l 1 0) 0x00 in
      rw (fails (a && b && c) λ t.
      f (eqb→eq (length l) trailer_size (and_left a b (and_left (a && b) c t)))
      (eqb→eq (get_or l 0 0) 0x46 (and_right a b (and_left (a && b) c t)))
      (eqb→eq (get_or l 1 0) 0x00 (and_right (a && b) c t)))

  pub a_trailer : length l ≡ trailer_size → get_or l 0 0 ≡ 0x46 → get_or l 1 0 ≡ 0x00 → Some (record { tag = tag_of (field l 2 2); length = field l 4 4 }) ≡ ending_of (decode_trailer l)
  unfolding decode_trailer
  a_trailer e m s = rw (e, m, s)

-- what the four writes of `write_trailer` leave
pub trailer_holds : (f : List ℕ) (t : Tag) (n : ℕ) → written_at (written_at (set (set f 0 0x46) 1 0x00) 2 (little_bytes 2 t.tracepoint)) 4 (little_bytes 4 n) ≡ written_at f 0 (encode_trailer t n)
unfolding encode_trailer little_bytes
trailer_holds f t n =
    ap (λ l. written_at (written_at (set l 1 0x00) 2 (little_bytes 2 t.tracepoint)) 4 (little_bytes 4 n)) (written_store f 0 0x46)
    ∙ ap (λ l. written_at (written_at l 2 (little_bytes 2 t.tracepoint)) 4 (little_bytes 4 n)) (written_store (written_at f 0 (0x46 ∷ [])) 1 0x00 ∙ written_more f 0 (0x46 ∷ []) (0x00 ∷ []))
    ∙ ap (λ l. written_at l 4 (little_bytes 4 n)) (written_more f 0 (0x46 ∷ 0x00 ∷ []) (little_bytes 2 t.tracepoint))
    ∙ written_more f 0 (0x46 ∷ 0x00 ∷ little_bytes 2 t.tracepoint) (little_bytes 4 n)
