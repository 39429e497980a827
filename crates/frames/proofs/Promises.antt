-- What users of `frames` may cite, each law stated in full and proved where it is named. The contracts of src/ are the
-- rest.
use mathlib.Core.Bool.{Bool, true, false}
use mathlib.Core.List.{List, [], ◌∷◌, ◌++◌}
use mathlib.Core.Path.{◌≡◌, refl}
use Prim.Native.Nat.{ℕ, ◌+◌, ◌-◌, ◌^◌, ◌≤◌, ◌<◌}
use lib.ListN.{length, take, drop}
use Rattle.std.proofs.Common.{Option, Some, None}
use Rattle.encoding.specs.LittleEndian.{little_endian, little_bytes}
use Rattle.encoding.specs.Written.{written_at}
use Rattle.encoding.specs.Ranges.{AllBytes}
use Rattle.sizes.specs.Sizes.{buffer_most}
use Rattle.frames.specs.Buffer.{unfit}
use Rattle.frames.specs.Record.{Record, encode, encode_all, size, WellFormed, AllWellFormed, Decoded, found, broken, decode_memory, decode_variable, decode}
use Rattle.frames.specs.Division.{Division, records, broken_at, after, after_all, divide_at_most, divide}
use Rattle.frames.specs.declared.Tag.{Tag}
use Rattle.frames.specs.Trailer.{trailer_size, tag_of, TagFits, encode_trailer, trailer, decode_trailer}
use Rattle.frames.specs.Frame.{encode_frame}
use Rattle.frames.specs.Joining.Answers.{size_of, Leaves, PutWhole}
use Rattle.frames.specs.Writing.{written, encodable}
use Rattle.frames.specs.Example.{example_frame, example_records}
use Rattle.frames.proofs.Buffer as buffer
use Rattle.frames.proofs.Decoding as decoding
use Rattle.frames.proofs.Dividing as dividing
use Rattle.frames.proofs.Closing as closing
use Rattle.frames.proofs.Fitting as fitting
use Rattle.frames.proofs.Reading as reading

-- The laws below that ask for bytes (`AllBytes`) hold of any slice that is lent: `lent_bytes` on the page of the
-- demands.

-- ---- a buffer that fits, and one that does not
module _ (l : List ℕ) (u : ℕ) where
  pub is_fit : length l ≤ buffer_most → u ≤ length l → unfit l u ≡ false
  is_fit = buffer.is_fit l u

  pub fit_lengths : unfit l u ≡ false → (length l ≤ buffer_most) × (u ≤ length l)
  fit_lengths = buffer.fit_lengths l u

-- ---- a record and its bytes
-- 11 + the number of bytes, or 13
pub length_encode : (r : Record) → length (encode r) ≡ size r
length_encode = decoding.size_encode

-- a record that was written is read back, whatever follows it
pub decode_encode : (r : Record) (rest : List ℕ) → WellFormed r → decode (encode r ++ rest) ≡ found r
decode_encode = decoding.decode_encode

-- a record that is read has at least one byte, and all its bytes are there
pub found_fits : (l : List ℕ) {r : Record} → decode l ≡ found r → (1 ≤ size r) × (size r ≤ length l)
found_fits = decoding.found_fits

-- what is read from bytes is well formed, and the bytes read are its encoding
pub encode_decode : (l : List ℕ) → AllBytes l → {r : Record} → decode l ≡ found r → WellFormed r × (l ≡ encode r ++ drop (size r) l)
encode_decode = decoding.encode_decode

pub encode_all_append : (rs ts : List Record) → encode_all (rs ++ ts) ≡ encode_all rs ++ encode_all ts
encode_all_append = dividing.encode_all_append

pub encode_all_more : (rs : List Record) (r : Record) → encode_all (rs ++ (r ∷ [])) ≡ encode_all rs ++ encode r
encode_all_more = dividing.encode_all_more

-- ---- the division into records: its three equations, and then the records before it
pub divide_nothing : divide [] ≡ records []
divide_nothing = dividing.divide_nothing

pub divide_found : (l : List ℕ) {r : Record} → decode l ≡ found r → divide l ≡ after r (divide (drop (size r) l))
divide_found = dividing.divide_found

pub divide_broken : (l : List ℕ) → 0 < length l → decode l ≡ broken → divide l ≡ broken_at 0
divide_broken = dividing.divide_broken

module _ (rs : List Record) where
  pub after_all_nothing : after_all rs (records []) ≡ records rs
  after_all_nothing = dividing.after_all_nothing rs

  pub after_all_more : (r : Record) (d : Division) → after_all rs (after r d) ≡ after_all (rs ++ (r ∷ [])) d
  after_all_more = dividing.after_all_more rs

  pub after_all_broken : (i : ℕ) → after_all rs (broken_at i) ≡ broken_at (length (encode_all rs) + i)
  after_all_broken = dividing.after_all_broken rs

  -- records that were written are divided again, whatever follows them
  pub divide_encoded : (l : List ℕ) → AllWellFormed rs → divide (encode_all rs ++ l) ≡ after_all rs (divide l)
  divide_encoded = dividing.divide_encoded rs

  pub divide_all : AllWellFormed rs → divide (encode_all rs) ≡ records rs
  divide_all = dividing.divide_all rs

-- bytes that divide are the encoding of their records, which are well formed
pub divided_encoded : (l : List ℕ) → AllBytes l → (rs : List Record) → divide l ≡ records rs → AllWellFormed rs × (l ≡ encode_all rs)
divided_encoded = dividing.divided_encoded

-- the first record of bytes that divide, and the rest
module _ (l : List ℕ) (r : Record) (ts : List Record) (e : divide l ≡ records (r ∷ ts)) where
  pub divided_some : 0 < length l
  divided_some = dividing.divided_some l r ts e

  pub divided_first : (decode l ≡ found r) × (divide (drop (size r) l) ≡ records ts)
  divided_first = dividing.divided_first l r ts e

-- records take all the bytes that divide into them
pub divided_length : (l : List ℕ) {rs : List Record} → divide l ≡ records rs → length l ≡ length (encode_all rs)
divided_length = dividing.divided_length

-- a broken record lies within the bytes
pub broken_inside : (l : List ℕ) {i : ℕ} → divide l ≡ broken_at i → i < length l
broken_inside = dividing.broken_inside

-- ---- the trailer: what it can hold, its length, and both ways between tag and length and its bytes
pub tag_fits : {t : ℕ} → t < 2 ^ 16 → TagFits (tag_of t)
tag_fits = closing.tag_fits

pub trailer_length : (t : Tag) (n : ℕ) → length (encode_trailer t n) ≡ trailer_size
trailer_length = closing.trailer_length

-- a frame is its records and the trailer
pub frame_length : (t : Tag) (rs : List Record) → length (encode_frame t rs) ≡ length (encode_all rs) + trailer_size
frame_length = closing.frame_length

pub decode_trailer_lem : (t : Tag) (n : ℕ) → TagFits t → n < 2 ^ 32 → decode_trailer (encode_trailer t n) ≡ trailer t n
decode_trailer_lem = closing.decode_trailer_lem

pub encode_trailer_lem : (l : List ℕ) → AllBytes l → {t : Tag} {n : ℕ} → decode_trailer l ≡ trailer t n → TagFits t × (n < 2 ^ 32) × (l ≡ encode_trailer t n)
encode_trailer_lem = closing.encode_trailer_lem

-- ---- the writers
-- a record that a reader does not refuse has an encoding
pub well_formed_encodable : (r : Record) → WellFormed r → encodable r ≡ true
well_formed_encodable = fitting.well_formed_encodable

module _ (b : Bool) (l : List ℕ) (u : ℕ) (e : List ℕ) {r : Option ℕ} {m : List ℕ} where
  -- what a writer's answer says
  pub wrote : Leaves (written b l u e) r m → {n : ℕ} → r ≡ Some n → PutWhole l u e n m
  wrote = fitting.wrote b l u e

  pub full : Leaves (written b l u e) r m → r ≡ None → (b ≡ true → length l < u + length e) × (m ≡ l)
  full = fitting.full b l u e

-- a writer that was lent the free part of a buffer has written into the buffer
pub lent : (b : Bool) (l : List ℕ) (u : ℕ) (e : List ℕ) → u ≤ length l → {r : Option ℕ} {p : List ℕ} → Leaves (written b (take (length l - u) (drop u l)) 0 e) r p
    → Leaves (written b l u e) r (take u l ++ (p ++ drop (length l - u) (drop u l)))
lent = fitting.lent

-- a record written behind others, and the trailer behind them all
module _ (l : List ℕ) (u : ℕ) (rs : List Record) where
  pub record_behind : (r : Record) → written_at (written_at l u (encode_all rs)) (u + length (encode_all rs)) (encode r) ≡ written_at l u (encode_all (rs ++ (r ∷ [])))
  record_behind = fitting.record_behind l u rs

  pub trailer_behind : (t : Tag)
      → written_at (written_at l u (encode_all rs)) (u + length (encode_all rs)) (encode_trailer t (length (encode_all rs))) ≡ written_at l u (encode_frame t rs)
  trailer_behind = fitting.trailer_behind l u rs

-- ---- the size of a record
-- a record is found, and the answer is its size; or none is, and there is no answer
pub by_size : {X : Type 0} (d : Decoded) → (d ≡ broken → size_of d ≡ None → X) → ((r : Record) → d ≡ found r → size_of d ≡ Some (size r) → X) → X
by_size = reading.by_size

-- ---- document 01's frame, written and read
pub example_written : encode_frame (tag_of 7) example_records ≡ example_frame
unfolding little_bytes encode encode_all encode_trailer encode_frame example_frame example_records
example_written = refl

pub example_closed : decode_trailer (drop (length example_frame - trailer_size) example_frame) ≡ trailer (tag_of 7) 13
unfolding little_endian decode_trailer example_frame
example_closed = refl

pub example_divided : divide (take (length example_frame - trailer_size) example_frame) ≡ records example_records
unfolding little_endian decode_memory decode_variable decode divide_at_most divide example_frame example_records
example_divided = refl
