-- What the reader tells of a memory record of the newest frame is the target's: each byte at its place in the buffer.
use mathlib.Core.List.{List, ◌∷◌, ◌++◌}
use mathlib.Core.Path.{◌≡◌, refl, sym, ap, ◌∙◌}
use Prim.Native.Nat.{ℕ, ◌+◌, ◌≤◌, ◌<◌}
use native.Mathlib.Omega.{arith}
use native.Mathlib.Decide.{dec_lt}
use lib.ListN.{length, get_or, take, drop}
use lib.Seq.{get_or-take, get_or-drop}
use Rattle.encoding.specs.Written.{written_at}
use Rattle.sizes.specs.Sizes.{buffer_most}
use Rattle.memory.specs.Spans.{Target, spans_refusal}
use Rattle.memory.specs.Fetch.{InTarget, target_byte}
use Rattle.frames.specs.Record.{Record, memory, variable, encode_all, AllWellFormed}
use Rattle.frames.specs.declared.Tag.{Tag}
use Rattle.frames.specs.Trailer.{TagFits}
use Rattle.frames.specs.Frame.{encode_frame}
use Rattle.machine.specs.Recorded.{AllFromTarget}
use Rattle.machine.proofs.Promises.{recorded_byte}
use Rattle.reader.specs.Read.{memory_read, told, reading}
use Rattle.reader.proofs.Promises as reader
use Rattle.demands.proofs.Leaving.{At, at, all_at}

-- the byte at an index of a part of a list
part_byte : (l bytes : List ℕ) (p n j : ℕ) → take n (drop p l) ≡ bytes → j < n → get_or l (p + j) 0 ≡ get_or bytes j 0
part_byte l bytes p n j e h = sym (ap (λ (x : List ℕ). get_or x j 0) (sym e) ∙ get_or-take n (drop p l) j 0 h ∙ get_or-drop p l j 0)

module _ (m : Target) (fine : spans_refusal m ≡ 0) (l : List ℕ) (u : ℕ) (t : Tag) (rs : List Record)
    (small : length l ≤ buffer_most) (fits : u + length (encode_frame t rs) ≤ length l) (low : TagFits t) (well : AllWellFormed rs) (from : AllFromTarget m rs) where
  abbrev after : List ℕ
  after = written_at l u (encode_frame t rs)

  abbrev used : ℕ
  used = u + length (encode_frame t rs)

  -- the byte number j of the record that the reader tells with the address a and the place p
  abbrev Shown : ℕ → ℕ → ℕ → Type 0
  Shown a p j = InTarget m (a + j) × (get_or after (p + j) 0 ≡ target_byte m (a + j))

  by_record : {i : ℕ} (x : At rs i) (r : Record) → x.here ≡ r → {s : Tag} {a n p : ℕ} → told t (u + length (encode_all x.before)) r ≡ memory_read s a n p
      → (j : ℕ) → j < n → Shown a p j
  by_record x (memory b bytes) e {s} {a} {n} {p} q j h =
      let p1 : b ≡ a = cc in
      let p2 : length bytes ≡ n = cc in
      let p3 : u + length (encode_all x.before) + 11 ≡ p = cc in
      let s1 : rs ≡ x.before ++ (memory b bytes ∷ x.behind) = rw e at x.split in
      let y = recorded_byte m fine b bytes (all_at m x.before (memory b bytes) x.behind (rw s1 at from)) j (omega arith) in
      let z = part_byte after bytes p n j (rw (← p2, ← p3) (reader.newest_bytes l u t rs small fits low x.before b bytes x.behind s1)) h in
      (rw (← p1) y.0, z ∙ rw (← p1) y.1)
  by_record x (variable k y) e q j h = absurd (let z : ◌≡◌ {A = ℕ} 0 1 = cc in omega arith)

  pub told_byte : (i : ℕ) {s : Tag} {a n p : ℕ} → reading after used 0 i ≡ memory_read s a n p → (j : ℕ) → j < n → Shown a p j
  told_byte i q j h =
      elim (dec_lt i (length rs)) [
        | yes c ↦
            let x = at rs i c in
            let y = rw x.place at (reader.newest_record l u t rs small fits low well x.before x.here x.behind x.split) in
            by_record x x.here refl (sym y ∙ q) j h
        | no c ↦ let w = reader.newest_past l u t rs small fits low well i (omega arith) in absurd (let z : ◌≡◌ {A = ℕ} 0 1 = cc in omega arith)
      ]
