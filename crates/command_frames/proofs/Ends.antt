-- Where frames end and where their records are: laws for the proofs of the functions of `places`. Assumes nothing.
use Rattle.std.proofs.Common.{◌≡◌, ℕ, zero, suc, ◌+◌, ◌-◌, ◌<◌, ◌≤◌, Bool, true, false, cond, List, length, drop, sym, refl, ap, ◌∙◌, arith, length-drop, drop-drop}
use Rattle.refusals.specs.Numbers.{buffer_bad}
use Rattle.refusals.specs.Refusal.{Refusal, refusal}
use Rattle.frames.specs.Buffer.{unfit}
use Rattle.frames.specs.Record.{Record, memory, variable, size}
use Rattle.frames.specs.declared.Tag.{Tag}
use Rattle.frames.proofs.Promises.{is_fit, fit_lengths}
use Rattle.reader.specs.Located.{frame, refused, frame_before, older, frame_back, located, walked}
use Rattle.reader.specs.Framed.{FrameRead, frame_read, refused_frame, framed}
use Rattle.reader.specs.Read.{counted, count_in, counting}
use Rattle.reader.specs.NextRecord.{record_there, record_at, step_over, step_at, next_record, RecordsFrom, stops, goes}
use Rattle.reader.proofs.Promises.{walked_back, located_inside, framed_located, memory_step, variable_step}
use Rattle.reader.specs.Answers.{step_to}
use Rattle.reader.specs.declared.Found.{Found}
use Rattle.reader.specs.declared.Found.TheVariants.{Memory as FoundMemory, Variable as FoundVariable}
use Rattle.command_frames.specs.Places.{behind_in}

-- ---- a step of the walk, and the frame of a number
not_frame : {r : Refusal} {t : Tag} {s n : ℕ} → refused r ≡ frame t s n → ⊥
not_frame e = let z : ◌≡◌ {A = ℕ} 0 1 = cc in omega arith

module _ (l : List ℕ) (place : ℕ) where
  fit_located : (s n : ℕ) → unfit l s ≡ false → frame_back l n s ≡ located l s n
  unfolding located
  fit_located s n f = rw f

  older_by : (n : ℕ) {t : Tag} {s k : ℕ} (b : Bool) → unfit l place ≡ b → cond b (refused (refusal buffer_bad 0)) (frame_before l place) ≡ frame t s k → s ≤ place
      → cond b (refused (refusal buffer_bad 0)) (older (λ start. frame_back l n start) (frame_before l place)) ≡ located l s n
  older_by n true e q h = absurd (not_frame q)
  older_by n {s = s} false e q h =
      let w = fit_lengths l place e in
      ap (older (λ start. frame_back l n start)) q ∙ fit_located s n (is_fit l s w.0 (omega (arith, w, h)))

  -- a frame is found: those before it are counted from its start
  older_located : (n : ℕ) {t : Tag} {s k : ℕ} → walked l place ≡ frame t s k → located l place (suc n) ≡ located l s n
  unfolding walked located frame_back
  older_located n {s = s} q = older_by n (unfit l place) refl q (omega (arith, walked_back l place q))

  refused_by : (n : ℕ) {r : Refusal} (b : Bool) → cond b (refused (refusal buffer_bad 0)) (frame_before l place) ≡ refused r
      → cond b (refused (refusal buffer_bad 0)) (older (λ start. frame_back l n start) (frame_before l place)) ≡ cond b (refused (refusal buffer_bad 0)) (frame_before l place)
  refused_by n true q = refl
  refused_by n false q = ap (older (λ start. frame_back l n start)) q ∙ sym q

  -- none is found: so it is with each older one
  refused_located : (n : ℕ) {r : Refusal} → walked l place ≡ refused r → located l place n ≡ located l place 0
  unfolding walked located frame_back
  refused_located zero q = refl
  refused_located (suc n) q = refused_by n (unfit l place) q

-- ---- the loop of `end_of`: the frame that ends at `place`, and `left` frames older, is frame `number`
pub record Back (l : List ℕ) (used number place left : ℕ) : Type 0 where
  pub same : located l place left ≡ located l used number

module _ {l : List ℕ} {used number place left : ℕ} (b : Back l used number place left) where
  pub stops_there : {r : Refusal} → walked l place ≡ refused r → located l place 0 ≡ located l used number
  stops_there q = sym (refused_located l place left q) ∙ b.same

  pub ends_there : left ≡ 0 → located l place 0 ≡ located l used number
  ends_there e = ap (located l place) (sym e) ∙ b.same

  pub goes_older : 0 < left → {t : Tag} {s k : ℕ} → walked l place ≡ frame t s k → Back l used number s (left - 1)
  goes_older h q =
      let e : suc (left - 1) ≡ left = omega (arith, h) in
      record { same = sym (older_located l place (left - 1) q) ∙ ap (located l place) e ∙ b.same }

-- ---- the records of a frame lie inside the buffer
same_part : {t u : Tag} {s r n m k i : ℕ} → counted t s n k ≡ counted u r m i → (s ≡ r) × (n ≡ m)
same_part e = (cc, cc)

module _ (l : List ℕ) (used number : ℕ) where
  counted_by : (x : FrameRead) → framed l used number ≡ x → {t : Tag} {s n k : ℕ} → count_in x ≡ counted t s n k → s + n ≤ length l
  counted_by (frame_read u r rs) q e = omega (arith, located_inside l used number (sym (framed_located l used number q)), same_part e)
  counted_by (refused_frame r) q e = absurd (let z : ◌≡◌ {A = ℕ} 0 1 = cc in omega arith)

  pub count_inside : {t : Tag} {s n k : ℕ} → counting l used number ≡ counted t s n k → s + n ≤ length l
  unfolding counting
  count_inside e = counted_by (framed l used number) refl e

-- ---- the walk over records, one step on
module _ (l : List ℕ) (end : ℕ) where
  next_told : (place : ℕ) (x : Record) → record_at l end place ≡ record_there x → next_record l end place ≡ step_over place x
  unfolding next_record
  next_told place x e = ap (step_at place) e

  over_behind : (place : ℕ) (x : Record) → behind_in end (step_over place x) ≡ place + size x
  over_behind place (memory a bytes) = refl
  over_behind place (variable n v) = refl

  there_inside : (place : ℕ) (x : Record) → record_at l end place ≡ record_there x → place < end
  there_inside place (memory a bytes) e = let m = memory_step l end place (next_told place (memory a bytes) e) in omega (arith, m.0, m.2)
  there_inside place (variable n v) e = let m = variable_step l end place (next_told place (variable n v) e) in omega (arith, m.0, m.1)

  walk_inside : {place : ℕ} {ts : List Record} {q : Refusal} → RecordsFrom l end place ts q → 0 < length ts → place < end
  walk_inside (stops e) h = absurd (omega arith)
  walk_inside (goes {place = place} {x = x} e w) h = there_inside place x e

  walk_on : {place : ℕ} {ts : List Record} {q : Refusal} → RecordsFrom l end place ts q → 0 < length ts → RecordsFrom l end (behind_in end (next_record l end place)) (drop 1 ts) q
  walk_on (stops e) h = absurd (omega arith)
  walk_on (goes {place = place} {x = x} e w) h =
      let n : place + size x ≡ behind_in end (next_record l end place) = sym (ap (behind_in end) (next_told place x e) ∙ over_behind place x) in
      rw n at w

  -- what the code is told of the record
  pub next_behind : (place : ℕ) (x : Found) (n : ℕ) → step_to x n ≡ next_record l end place → (place < n) × (n ≡ behind_in end (next_record l end place))
  next_behind place (FoundMemory a k p) n e = ((memory_step l end place (sym e)).0, ap (behind_in end) e)
  next_behind place (FoundVariable i v) n e = ((variable_step l end place (sym e)).0, ap (behind_in end) e)

-- ---- the loop of `record_place`: the walk from `place` gives what is left of the records behind the first
-- index - left
pub record Rest (l : List ℕ) (end start index place left : ℕ) : Type 0 where
  pub few : left ≤ index
  pub gives : (rs : List Record) (q : Refusal) → RecordsFrom l end start rs q → index ≤ length rs → RecordsFrom l end place (drop (index - left) rs) q

pub rest_begins : (l : List ℕ) (end start index : ℕ) → Rest l end start index start index
rest_begins l end start index = record {
  few = omega arith;
  gives = λ rs q w h. let e : index - index ≡ 0 = omega arith in rw e w;
}

module _ {l : List ℕ} {end start index place left : ℕ} (b : Rest l end start index place left) where
  left_over : (rs : List Record) → 0 < left → index ≤ length rs → 0 < length (drop (index - left) rs)
  left_over rs h k = omega (arith, length-drop (index - left) rs, b.few, h, k)

  pub rest_cut : 0 < left → end ≤ place → (rs : List Record) (q : Refusal) → RecordsFrom l end start rs q → index ≤ length rs → RecordsFrom l end place (drop index rs) q
  rest_cut h out rs q w k = absurd (let i = walk_inside l end (b.gives rs q w k) (left_over rs h k) in omega (arith, i, out))

  pub rest_ends : left ≡ 0 → (rs : List Record) (q : Refusal) → RecordsFrom l end start rs q → index ≤ length rs → RecordsFrom l end place (drop index rs) q
  rest_ends z rs q w k = let e : index - left ≡ index = omega (arith, z) in rw e at (b.gives rs q w k)

  pub rest_again : 0 < left → {next : ℕ} → next ≡ behind_in end (next_record l end place) → Rest l end start index next (left - 1)
  rest_again h {next} e = record {
    few = omega (arith, b.few);
    gives = λ rs q w k.
        let n : index - left + 1 ≡ index - (left - 1) = omega (arith, b.few, h) in
        let v = walk_on l end (b.gives rs q w k) (left_over rs h k) in
        rw (drop-drop 1 (index - left) rs, n, ← e) at v;
  }
