-- The lines of the record at a place. Assumes nothing.
use Rattle.std.proofs.Common.{◌≡◌, ℕ, ◌+◌, ◌%◌, ◌^◌, ◌<◌, List, [], ◌∷◌, ◌++◌, length, take, drop, refl, ap, ◌∙◌, add-zero, arith, length-append, lt-ltb}
use Rattle.refusals.specs.Refusal.{Refusal}
use Rattle.frames.specs.Record.{Record, memory, variable, size, encode, encode_all}
use Rattle.frames.proofs.Promises.{length_encode}
use Rattle.reader.specs.NextRecord.{record_there, record_at, step_over, step_at, next_record, RecordsFrom, goes}
use Rattle.reader.specs.NextRecord.{RecordStep}
use Rattle.frame_lines.specs.Dump.{dump_line, dump_text}
use Rattle.frame_lines.specs.Lines.{record_text, line_of}

module _ (l : List ℕ) (end place : ℕ) where
  next_told : (x : Record) → record_at l end place ≡ record_there x → next_record l end place ≡ step_over place x
  unfolding next_record
  next_told x e = ap (step_at place) e

  over_line : (index : ℕ) (x : Record) → record_text index (step_over place x) ≡ line_of index x
  unfolding record_text
  over_line index (memory a bytes) = refl
  over_line index (variable n v) = refl

  pub record_line : (index : ℕ) (x : Record) → record_at l end place ≡ record_there x → record_text index (next_record l end place) ≡ line_of index x
  record_line index x e = ap (record_text index) (next_told x e) ∙ over_line index x

  -- the bytes at the place that is told are those of the record
  pub record_dump : (a : ℕ) (bytes : List ℕ) → record_at l end place ≡ record_there (memory a bytes) → take (length bytes) (drop (place + 11) l) ≡ bytes → (o : ℕ) → o < length bytes
      → dump_text l (next_record l end place) o ≡ dump_line ((a + o) % 2 ^ 64) (take 16 (drop o bytes))
  unfolding dump_text
  record_dump a bytes e b o h =
      ap (λ (x : RecordStep). dump_text l x o) (next_told (memory a bytes) e)
      ∙ rw (lt-ltb o (length bytes) h) (ap (λ (m : List ℕ). dump_line ((a + o) % 2 ^ 64) (take 16 (drop o m))) b)

-- the place of a record in a walk: behind those before it
module _ (l : List ℕ) (end : ℕ) where
  walk_at : {place : ℕ} {r : Refusal} (before : List Record) (x : Record) (behind : List Record) → RecordsFrom l end place (before ++ (x ∷ behind)) r
      → record_at l end (place + length (encode_all before)) ≡ record_there x
  unfolding encode_all
  walk_at {place = place} [] x behind (goes e w) = ap (record_at l end) (add-zero place) ∙ e
  walk_at {place = place} (y ∷ before) x behind (goes e w) =
      let n : place + length (encode y ++ encode_all before) ≡ place + size y + length (encode_all before) = omega (arith, length-append (encode y) (encode_all before), length_encode y) in
      ap (record_at l end) n ∙ walk_at {place = place + size y} before x behind w

  pub walk_in : {place : ℕ} {rs : List Record} {r : Refusal} → RecordsFrom l end place rs r → (before : List Record) (x : Record) (behind : List Record) → rs ≡ before ++ (x ∷ behind)
      → record_at l end (place + length (encode_all before)) ≡ record_there x
  walk_in w before x behind e = walk_at before x behind (rw e at w)
