-- The pieces of a frame, one behind the other, are the frame. Assumes nothing.
use Rattle.std.proofs.Common.{◌≡◌, ℕ, ◌+◌, List, ◌++◌, length, sym, refl, ap, ◌∙◌}
use Rattle.encoding.specs.LittleEndian.{little_bytes}
use Rattle.encoding.specs.Ranges.{AllBytes}
use Rattle.refusals.specs.Refusal.{Refusal}
use Rattle.frames.specs.Record.{Record, memory, variable, size, encode, encode_all}
use Rattle.frames.specs.declared.Tag.{Tag}
use Rattle.reader.specs.Located.{frame_back, located, walked}
use Rattle.reader.specs.Framed.{frame_read, framed}
use Rattle.reader.specs.NextRecord.{record_there, record_at, step_over, step_at, next_record, RecordsFrom, stops, goes}
use Rattle.reader.proofs.Promises.{framed_located, framed_walked, there_bytes}
use Rattle.tracefile.specs.Frames.{exported, exported_all, frame_bytes, opening_bytes, record_bytes, place_behind, records_from}

walked_located : (l : List ℕ) (end : ℕ) → walked l end ≡ located l end 0
unfolding walked located frame_back
walked_located l end = refl

module _ (l : List ℕ) (end : ℕ) where
  next_told : (place : ℕ) (x : Record) → record_at l end place ≡ record_there x → next_record l end place ≡ step_over place x
  unfolding next_record
  next_told place x e = ap (step_at place) e

  over_bytes : AllBytes l → (place : ℕ) (x : Record) → record_at l end place ≡ record_there x → record_bytes l (step_over place x) ≡ encode (exported x)
  unfolding record_bytes
  over_bytes low place (memory a bytes) e = ap (λ (m : List ℕ). encode (memory a m)) (there_bytes l end place low e)
  over_bytes low place (variable n v) e = refl

  over_place : (place : ℕ) (x : Record) → place_behind place (step_over place x) ≡ place + size x
  over_place place (memory a bytes) = refl
  over_place place (variable n v) = refl

  -- the piece of a record
  pub one_piece : AllBytes l → (place : ℕ) (x : Record) → record_at l end place ≡ record_there x → record_bytes l (next_record l end place) ≡ encode (exported x)
  one_piece low place x e = ap (record_bytes l) (next_told place x e) ∙ over_bytes low place x e

  one_place : (place : ℕ) (x : Record) → record_at l end place ≡ record_there x → place_behind place (next_record l end place) ≡ place + size x
  one_place place x e = ap (place_behind place) (next_told place x e) ∙ over_place place x

  -- the pieces of all records of a walk
  all_pieces : AllBytes l → {place : ℕ} {rs : List Record} {r : Refusal} → RecordsFrom l end place rs r → records_from l end place (length rs) ≡ encode_all (exported_all rs)
  unfolding encode_all
  all_pieces low (stops e) = refl
  all_pieces low (goes {place = place} {x = x} {rs = rs} e w) =
      ap (λ (m : List ℕ). m ++ records_from l end (place_behind place (next_record l end place)) (length rs)) (one_piece low place x e)
      ∙ ap (λ (j : ℕ). encode (exported x) ++ records_from l end j (length rs)) (one_place place x e)
      ∙ ap (λ (m : List ℕ). encode (exported x) ++ m) (all_pieces low w)

module _ (l : List ℕ) (end : ℕ) {t : Tag} {s : ℕ} {rs : List Record} (low : AllBytes l) (q : framed l end 0 ≡ frame_read t s rs) where
  abbrev opening : List ℕ
  opening = little_bytes 2 t.tracepoint ++ little_bytes 4 (length (encode_all rs))

  opening_piece : opening_bytes (walked l end) ≡ opening
  unfolding opening_bytes
  opening_piece = ap opening_bytes (walked_located l end ∙ framed_located l end 0 q)

  pub frame_pieces : opening_bytes (walked l end) ++ records_from l (s + length (encode_all rs)) s (length rs) ≡ frame_bytes (framed l end 0)
  frame_pieces =
      ap (λ (m : List ℕ). m ++ records_from l (s + length (encode_all rs)) s (length rs)) opening_piece
      ∙ ap (λ (m : List ℕ). opening ++ m) (all_pieces l (s + length (encode_all rs)) low (framed_walked l end 0 q))
      ∙ sym (ap frame_bytes q)
