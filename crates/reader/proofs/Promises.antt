-- What users of `reader` may cite. F1 and F2 are the contracts of src/lib.rt: for every buffer, used length, frame and
-- record number, `read` answers `reading`, `count_records` answers `counting`, `locate` answers `located`, one step of
-- a walk, `walk`, answers `walked`, and one over records, `next_record`, answers `next_record`. Then what is known of
-- the answers, and F3: what was written is read back.
use mathlib.Core.Bool.{Bool}
use mathlib.Core.List.{List, ◌∷◌, ◌++◌}
use mathlib.Core.Path.{◌≡◌}
use Prim.Native.Nat.{ℕ, suc, ◌+◌, ◌≤◌, ◌<◌}
use lib.ListN.{length, take, drop}
use lib.Dec.{T}
use Rattle.sizes.specs.Sizes.{buffer_most}
use Rattle.refusals.specs.Numbers.{buffer_bad, trailer_broken, record_broken, no_such_frame, no_such_record}
use Rattle.refusals.specs.Refusal.{Refusal, refusal}
use Rattle.encoding.specs.Ranges.{AllBytes}
use Rattle.encoding.specs.Written.{written_at}
use Rattle.frames.specs.Record.{Record, memory, encode_all, AllWellFormed}
use Rattle.frames.specs.Frame.{encode_frame}
use Rattle.frames.specs.Trailer.{trailer_size, TagFits}
use Rattle.frames.specs.declared.Tag.{Tag}
use Rattle.reader.specs.Located.{frame, refused, located, walked}
use Rattle.reader.specs.Framed.{frame_read, refused_frame, framed}
use Rattle.reader.specs.Read.{memory_read, refused_read, told, reading, counted, refused_count, counting}
use Rattle.reader.specs.NextRecord.{record_there, record_at, Memory, Variable, Refused, next_record, RecordsFrom}
use Rattle.reader.proofs.Locating as locating
use Rattle.reader.proofs.Framing as framing
use Rattle.reader.proofs.Inside as inside
use Rattle.reader.proofs.Stepping as stepping
use Rattle.reader.proofs.RecordWalk as record_walk
use Rattle.reader.proofs.Numbers as numbers
use Rattle.reader.proofs.ReadBack as back

-- a frame that is found lies inside the buffer, with its trailer
pub located_inside : (l : List ℕ) (used number : ℕ) {t : Tag} {s n : ℕ} → frame t s n ≡ located l used number → (s + n + trailer_size ≤ length l) × (length l ≤ buffer_most)
located_inside = locating.located_inside

-- A frame that is read divides exactly: its records are encoded in the bytes from its start on, as many as its trailer
-- says; and the trailer stands behind them.
module _ (l : List ℕ) (used number : ℕ) {t : Tag} {s : ℕ} {rs : List Record} (q : framed l used number ≡ frame_read t s rs) where
  pub framed_located : located l used number ≡ frame t s (length (encode_all rs))
  framed_located = framing.framed_located l used number q

  pub framed_records : AllBytes l → AllWellFormed rs × (take (length (encode_all rs)) (drop s l) ≡ encode_all rs)
  framed_records = framing.framed_records l used number q

  pub framed_bytes : AllBytes l → TagFits t × (take (length (encode_frame t rs)) (drop s l) ≡ encode_frame t rs)
  framed_bytes = framing.framed_bytes l used number q

-- the bytes of a memory record that is read lie inside the buffer
pub read_inside : (l : List ℕ) (used number i : ℕ) {t : Tag} {a n p : ℕ} → reading l used number i ≡ memory_read t a n p → p + n ≤ length l
read_inside = inside.read_inside

-- a step of a walk goes back over the frame's trailer and records: a walk that goes on from the start of each frame
-- comes to its end
pub walked_back : (l : List ℕ) (place : ℕ) {t : Tag} {s n : ℕ} → walked l place ≡ frame t s n → s + n + trailer_size ≡ place
walked_back = inside.walked_back

-- ---- the record walker
module _ (l : List ℕ) (end place : ℕ) where
  -- a step goes forward and stays inside, and a memory record's bytes are the last of the record
  pub memory_step : {a n p q : ℕ} → next_record l end place ≡ Memory a n p q → (place < q) × (p + n ≡ q) × (q ≤ end) × (end ≤ length l) × (length l ≤ buffer_most)
  memory_step = stepping.memory_step l end place

  pub variable_step : {i x q : ℕ} → next_record l end place ≡ Variable i x q → (place < q) × (q ≤ end) × (end ≤ length l) × (length l ≤ buffer_most)
  variable_step = stepping.variable_step l end place

  -- the bytes at the place that is told are those of the record
  pub there_bytes : AllBytes l → {a : ℕ} {bytes : List ℕ} → record_at l end place ≡ record_there (memory a bytes) → take (length bytes) (drop (place + 11) l) ≡ bytes
  there_bytes = stepping.there_bytes l end place

-- from every place there is one walk, and it ends
module _ (l : List ℕ) (end : ℕ) where
  pub walk_ends : (place : ℕ) → (rs : List Record) × (r : Refusal) × RecordsFrom l end place rs r
  walk_ends = record_walk.walk_ends l end

  pub one_walk : {place : ℕ} {rs ts : List Record} {r q : Refusal} → RecordsFrom l end place rs r → RecordsFrom l end place ts q → (rs ≡ ts) × (r ≡ q)
  one_walk = record_walk.one_walk l end

module _ (l : List ℕ) (used number : ℕ) where
  -- a frame that is read is walked: from its start the steps give its records, and then 25 at their end
  pub framed_walked : {t : Tag} {s : ℕ} {rs : List Record} → framed l used number ≡ frame_read t s rs
      → RecordsFrom l (s + length (encode_all rs)) s rs (refusal no_such_record (s + length (encode_all rs)))
  framed_walked = record_walk.framed_walked l used number

  -- one that is refused for a broken record is walked up to there
  pub broken_walked : {k : ℕ} → framed l used number ≡ refused_frame (refusal record_broken k)
      → (t : Tag) × (s : ℕ) × (n : ℕ) × (rs : List Record) × (located l used number ≡ frame t s n) × RecordsFrom l (s + n) s rs (refusal record_broken k)
  broken_walked = record_walk.broken_walked l used number

  -- and what the walk over a frame's records comes to is what reading the frame comes to
  module _ (t : Tag) (s n : ℕ) (e : located l used number ≡ frame t s n) where
    pub walked_whole : {rs : List Record} {k : ℕ} → RecordsFrom l (s + n) s rs (refusal no_such_record k) → (framed l used number ≡ frame_read t s rs) × (k ≡ s + n)
    walked_whole = record_walk.walked_whole l used number t s n e

    pub walked_cut : {rs : List Record} {k : ℕ} → RecordsFrom l (s + n) s rs (refusal record_broken k) → framed l used number ≡ refused_frame (refusal record_broken k)
    walked_cut = record_walk.walked_cut l used number t s n e

-- ---- the numbers of refusals: what holds of 15, 22 and 24 holds of each of a search's and of a walk's; with 23, of a
-- frame's and of a count's; with 25, of a reading's
module _ (p : ℕ → Bool) (l : List ℕ) (h15 : T (p buffer_bad)) (h22 : T (p trailer_broken)) (h24 : T (p no_such_frame)) where
  pub located_number : (used number : ℕ) {r : Refusal} → located l used number ≡ refused r → T (p r.number)
  located_number = numbers.located_number p l h15 h22 h24

  pub walked_number : (place : ℕ) {r : Refusal} → walked l place ≡ refused r → T (p r.number)
  walked_number = numbers.walked_number p l h15 h22 h24

  module _ (h23 : T (p record_broken)) where
    pub framed_number : (used number : ℕ) {r : Refusal} → framed l used number ≡ refused_frame r → T (p r.number)
    framed_number = numbers.framed_number p l h15 h22 h24 h23

    pub count_number_lem : (used number : ℕ) {r : Refusal} → counting l used number ≡ refused_count r → T (p r.number)
    count_number_lem = numbers.count_number_lem p l h15 h22 h24 h23

    pub read_number : T (p no_such_record) → (used number i : ℕ) {r : Refusal} → reading l used number i ≡ refused_read r → T (p r.number)
    read_number = numbers.read_number p l h15 h22 h24 h23

-- of a step over records: 15, 23 and 25
pub next_number : (p : ℕ → Bool) (l : List ℕ) → T (p buffer_bad) → T (p record_broken) → T (p no_such_record)
    → (end place : ℕ) {r : Refusal} → next_record l end place ≡ Refused r → T (p r.number)
next_number = numbers.next_number

-- ---- F3: a frame of the records rs and with the tag t, written behind the u used bytes of the buffer l, and counted
-- as used
module _ (l : List ℕ) (u : ℕ) (t : Tag) (rs : List Record) (small : length l ≤ buffer_most) (fits : u + length (encode_frame t rs) ≤ length l) (low : TagFits t) where
  abbrev after : List ℕ
  after = written_at l u (encode_frame t rs)

  abbrev used : ℕ
  used = u + length (encode_frame t rs)

  -- it is the newest
  pub newest_located : located after used 0 ≡ frame t u (length (encode_all rs))
  newest_located = back.newest_located l u t rs small fits low

  module _ (well : AllWellFormed rs) where
    -- it has exactly these records, in this order
    pub newest_framed : framed after used 0 ≡ frame_read t u rs
    newest_framed = back.newest_framed l u t rs small fits low well

    pub newest_count : counting after used 0 ≡ counted t u (length (encode_all rs)) (length rs)
    newest_count = back.newest_counting l u t rs small fits low well

    pub newest_record : (before : List Record) (r : Record) (behind : List Record) → rs ≡ before ++ (r ∷ behind)
        → reading after used 0 (length before) ≡ told t (u + length (encode_all before)) r
    newest_record = back.newest_record l u t rs small fits low well

    pub newest_walked : RecordsFrom after (u + length (encode_all rs)) u rs (refusal no_such_record (u + length (encode_all rs)))
    newest_walked = framed_walked after used 0 newest_framed

    pub newest_past : (i : ℕ) → length rs ≤ i → reading after used 0 i ≡ refused_read (refusal no_such_record u)
    newest_past = back.newest_past l u t rs small fits low well

  -- the bytes at the place that is told are those recorded
  pub newest_bytes : (before : List Record) (a : ℕ) (bytes : List ℕ) (behind : List Record) → rs ≡ before ++ (memory a bytes ∷ behind)
      → take (length bytes) (drop (u + length (encode_all before) + 11) after) ≡ bytes
  newest_bytes = back.newest_bytes l u t rs small fits low

  -- the frames that were there before are read as before, one number higher
  pub older_located : (number : ℕ) → located after used (suc number) ≡ located l u number
  older_located = back.older_located l u t rs small fits low

  pub older_framed : (number : ℕ) → framed after used (suc number) ≡ framed l u number
  older_framed = back.older_framed l u t rs small fits low

  pub older_count : (number : ℕ) → counting after used (suc number) ≡ counting l u number
  older_count = back.older_counting l u t rs small fits low

  pub older_record : (number i : ℕ) → reading after used (suc number) i ≡ reading l u number i
  older_record = back.older_reading l u t rs small fits low
