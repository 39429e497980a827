-- The record walker's step: one law for each way out of the code.
use mathlib.Core.Bool.{Bool, true, false}
use mathlib.Core.List.{List}
use mathlib.Core.Path.{◌≡◌, refl, ap, sym, ◌∙◌}
use Prim.Native.Nat.{ℕ, ◌+◌, ◌-◌, ◌≤◌, ◌<◌}
use native.Mathlib.Omega.{arith}
use lib.ListN.{length, take, drop, length-take, length-drop}
use lib.Seq.{drop-drop}
use Rattle.std.proofs.Common.{Some, None}
use borrow.Author.Tests.{le-leb, lt-leb}
use Rattle.logic.proofs.Promises.{cases}
use Rattle.sizes.specs.Sizes.{buffer_most}
use Rattle.encoding.specs.Ranges.{AllBytes}
use Rattle.encoding.proofs.Promises.{below_take, below_drop}
use Rattle.refusals.specs.Numbers.{buffer_bad, record_broken, no_such_record}
use Rattle.refusals.specs.Refusal.{Refusal, refusal}
use Rattle.frames.specs.Buffer.{unfit}
use Rattle.frames.specs.Record.{Record, memory, variable, size, Decoded, found, broken, decode}
use Rattle.frames.specs.Joining.Answers.{size_of}
use Rattle.frames.proofs.Promises.{fit_lengths, found_fits, encode_decode, by_size}
use Rattle.reader.specs.NextRecord.{AtPlace, record_there, refused_there, decoded_at, record_at, RecordStep, Memory as MemoryStep, Variable as VariableStep, Refused, step_over, step_at, next_record}
use Rattle.reader.specs.Answers.{step_to}
use Rattle.reader.specs.Joining.Splitting.{found_of, FoundAt}
use Rattle.reader.specs.declared.Found.{Found}
use Rattle.reader.proofs.ReadBack.{part_front, header_skipped}

-- the bytes from a place to the end
abbrev pub rest : List ℕ → ℕ → ℕ → List ℕ
rest l end place = take (end - place) (drop place l)

pub same_record : {x y : Record} → record_there x ≡ record_there y → x ≡ y
same_record e = cc

pub not_both : {x : Record} {r : Refusal} → record_there x ≡ refused_there r → ⊥
not_both e = let z : ◌≡◌ {A = ℕ} 0 1 = cc in omega arith

by_fit : {X : Type 0} {t : Bool} (b : Bool) → t ≡ b → (t ≡ true → X) → (t ≡ false → X) → X
by_fit true e f g = f e
by_fit false e f g = g e

found_step : (place : ℕ) (r : Record) → step_to (found_of place r) (place + size r) ≡ step_over place r
found_step place (memory a bytes) = refl
found_step place (variable i x) = refl

module _ (l : List ℕ) (end place : ℕ) where
  -- ---- the record at the place
  pub at_unfit : unfit l end ≡ true → record_at l end place ≡ refused_there (refusal buffer_bad 0)
  unfolding record_at
  at_unfit u = rw u

  module _ (fit : unfit l end ≡ false) where
    pub at_none : end ≤ place → record_at l end place ≡ refused_there (refusal no_such_record place)
    unfolding record_at
    at_none h = rw (fit, le-leb end place h)

    pub at_some : place < end → record_at l end place ≡ decoded_at place (decode (rest l end place))
    unfolding record_at
    at_some h = rw (fit, lt-leb end place h)

  -- the four ways
  by_decoding : {X : Type 0} (d : Decoded) → (decode (rest l end place) ≡ broken → X) → ((x : Record) → decode (rest l end place) ≡ found x → X)
      → decode (rest l end place) ≡ d → X
  by_decoding (found x) f g e = g x e
  by_decoding broken f g e = f e

  pub by_place : {X : Type 0} → (record_at l end place ≡ refused_there (refusal buffer_bad 0) → X)
      → (unfit l end ≡ false → end ≤ place → record_at l end place ≡ refused_there (refusal no_such_record place) → X)
      → (unfit l end ≡ false → place < end → record_at l end place ≡ refused_there (refusal record_broken place) → X)
      → ((x : Record) → unfit l end ≡ false → place < end → decode (rest l end place) ≡ found x → record_at l end place ≡ record_there x → X)
      → X
  by_place f15 f25 f23 f =
      by_fit (unfit l end) refl (λ u. f15 (at_unfit u))
      (λ u. cases place end
      (λ h. by_decoding (decode (rest l end place)) (λ b. f23 u h (at_some u h ∙ ap (decoded_at place) b)) (λ x e. f x u h e (at_some u h ∙ ap (decoded_at place) e)) refl)
      (λ h. f25 u h (at_none u h)))

  -- ---- what is told of it
  told_at : {x : AtPlace} → record_at l end place ≡ x → step_at place x ≡ next_record l end place
  unfolding next_record
  told_at e = ap (step_at place) (sym e)

  pub next_unfit : unfit l end ≡ true → Refused (refusal buffer_bad 0) ≡ next_record l end place
  next_unfit u = told_at (at_unfit u)

  module _ (fit : unfit l end ≡ false) where
    pub next_none : end ≤ place → Refused (refusal no_such_record place) ≡ next_record l end place
    next_none h = told_at (at_none fit h)

    module _ (h : place < end) where
      by_decoded : {d : Decoded} → decode (rest l end place) ≡ d → step_at place (decoded_at place d) ≡ next_record l end place
      by_decoded q = told_at (at_some fit h ∙ ap (decoded_at place) q)

      pub next_broken : None ≡ size_of (decode (rest l end place)) → Refused (refusal record_broken place) ≡ next_record l end place
      next_broken e = by_size (decode (rest l end place)) (λ b s. by_decoded b) (λ r f s. cc)

      module _ {n : ℕ} (e : Some n ≡ size_of (decode (rest l end place))) where
        -- a record that is there ends within the frame
        pub next_fits : place + n ≤ end
        next_fits =
            by_size (decode (rest l end place)) (λ b s. cc)
            (λ r f s. let k : n ≡ size r = cc in omega (arith, found_fits (rest l end place) f, length-take (end - place) (drop place l)))

        pub next_told : (x : Found) → FoundAt place (decode (rest l end place)) x → step_to x (place + n) ≡ next_record l end place
        next_told x t =
            by_size (decode (rest l end place)) (λ b s. cc)
            (λ r f s. let k : n ≡ size r = cc in let y : x ≡ found_of place r = rw f at t in rw (y, k) (found_step place r ∙ by_decoded f))

-- ---- a step goes forward and stays inside; so do the bytes of a memory record
abbrev Onward : List ℕ → ℕ → ℕ → RecordStep → Type 0
Onward l end place (MemoryStep a n p q) = (place < q) × (p + n ≡ q) × (q ≤ end) × (end ≤ length l) × (length l ≤ buffer_most)
Onward l end place (VariableStep i x q) = (place < q) × (q ≤ end) × (end ≤ length l) × (length l ≤ buffer_most)
Onward l end place (Refused r) = Unit {0}

module _ (l : List ℕ) (end place : ℕ) where
  pub there_inside : {x : Record} → record_at l end place ≡ record_there x → (place < place + size x) × (place + size x ≤ end) × (end ≤ length l) × (length l ≤ buffer_most)
  there_inside {x} q =
      by_place l end place (λ e. absurd (not_both (sym q ∙ e))) (λ u h e. absurd (not_both (sym q ∙ e))) (λ u h e. absurd (not_both (sym q ∙ e)))
      (λ y u h f e.
      let same : y ≡ x = same_record (sym e ∙ q) in
      let fits = rw same at (found_fits (rest l end place) f) in
      let lengths = fit_lengths l end u in
      (omega (arith, fits), omega (arith, fits, length-take (end - place) (drop place l)), lengths.1, lengths.0))

  over_onward : (x : Record) → record_at l end place ≡ record_there x → Onward l end place (step_over place x)
  over_onward (memory a bytes) q = let w = there_inside q in (w.0, omega arith, w.1, w.2, w.3)
  over_onward (variable i x) q = there_inside q

  at_onward : (y : AtPlace) → record_at l end place ≡ y → Onward l end place (step_at place y)
  at_onward (record_there x) q = over_onward x q
  at_onward (refused_there r) q = tt

  onward : Onward l end place (next_record l end place)
  unfolding next_record
  onward = at_onward (record_at l end place) refl

  pub memory_step : {a n p q : ℕ} → next_record l end place ≡ MemoryStep a n p q → (place < q) × (p + n ≡ q) × (q ≤ end) × (end ≤ length l) × (length l ≤ buffer_most)
  memory_step e = rw e at onward

  pub variable_step : {i x q : ℕ} → next_record l end place ≡ VariableStep i x q → (place < q) × (q ≤ end) × (end ≤ length l) × (length l ≤ buffer_most)
  variable_step e = rw e at onward

  -- ---- the bytes that are told of are those of the record
  pub there_bytes : AllBytes l → {a : ℕ} {bytes : List ℕ} → record_at l end place ≡ record_there (memory a bytes) → take (length bytes) (drop (place + 11) l) ≡ bytes
  there_bytes all {a} {bytes} q =
      let n = length bytes in
      let w = there_inside q in
      by_place l end place (λ e. absurd (not_both (sym q ∙ e))) (λ u h e. absurd (not_both (sym q ∙ e))) (λ u h e. absurd (not_both (sym q ∙ e)))
      (λ y u h f e.
      let same : y ≡ memory a bytes = same_record (sym e ∙ q) in
      let read = encode_decode (rest l end place) (below_take 256 (end - place) (drop place l) (below_drop 256 place l all)) (f ∙ ap found same) in
      ap (take n) (sym (drop-drop 11 place l))
      ∙ sym (part_front (drop place l) (end - place) 11 n (omega (arith, w, length-drop place l)) (omega (arith, w)))
      ∙ ap (λ k. take n (drop 11 k)) read.1 ∙ header_skipped a bytes _)
