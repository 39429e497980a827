-- Walks over the records of a frame: a step goes forward and stays inside, a walk ends, there is one from each place,
-- and it gives what reading the whole frame gives.
use mathlib.Core.Bool.{false, not}
use mathlib.Core.List.{List, [], ◌∷◌}
use mathlib.Core.Path.{◌≡◌, refl, ap, sym, ◌∙◌}
use Prim.Native.Nat.{ℕ, zero, suc, ◌+◌, ◌-◌, ◌≤◌, ◌<◌}
use native.Mathlib.Nat.{add-zero, add_assoc}
use native.Mathlib.Omega.{arith}
use lib.ListN.{length, take, drop, length-take, length-drop}
use lib.Dec.{eqb}
use lib.Seq.{take-add, drop_at, drop-drop, length-take-le}
use Rattle.logic.proofs.Promises.{cases}
use Rattle.sizes.specs.Sizes.{buffer_most}
use Rattle.refusals.specs.Numbers.{record_broken, no_such_record}
use Rattle.refusals.specs.Refusal.{Refusal, refusal}
use Rattle.frames.specs.Buffer.{unfit}
use Rattle.frames.specs.declared.Tag.{Tag}
use Rattle.frames.specs.Record.{Record, size, encode_all, Decoded, found, broken, decode}
use Rattle.frames.specs.Division.{Division, records, broken_at, after, divide}
use Rattle.frames.proofs.Promises.{is_fit, fit_lengths, found_fits, divide_nothing, divide_found, divide_broken}
use Rattle.reader.specs.NextRecord.{record_there, refused_there, decoded_at, record_at, RecordsFrom, stops, goes}
use Rattle.reader.specs.Located.{Located, frame, refused, located}
use Rattle.reader.specs.Framed.{frame_read, refused_frame, framed_by, framed_at_of, framed}
use Rattle.reader.proofs.Locating.{located_inside}
use Rattle.reader.proofs.Framing.{framed_located, framed_division}
use Rattle.reader.proofs.Numbers.{located_number}
use Rattle.reader.proofs.Stepping.{same_record, not_both, rest, at_none, at_some, by_place}

same_refusal : {r q : Refusal} → refused_there r ≡ refused_there q → r ≡ q
same_refusal e = cc

same_records : {rs ts : List Record} → records rs ≡ records ts → rs ≡ ts
same_records e = cc

same_offset : {i k : ℕ} → broken_at i ≡ broken_at k → i ≡ k
same_offset e = cc

not_cut : {rs : List Record} {k : ℕ} → records rs ≡ broken_at k → ⊥
not_cut e = let z : ◌≡◌ {A = ℕ} 0 1 = cc in omega arith

same_place : {n i k : ℕ} → refusal n i ≡ refusal n k → i ≡ k
same_place e = ap (λ r. r.offset) e

not_number : {i k : ℕ} → refusal record_broken i ≡ refusal no_such_record k → ⊥
not_number e = let z : record_broken ≡ no_such_record = ap (λ r. r.number) e in omega arith

module _ (l : List ℕ) (end : ℕ) where
  -- one walk from a place
  pub one_walk : {place : ℕ} {rs ts : List Record} {r q : Refusal} → RecordsFrom l end place rs r → RecordsFrom l end place ts q → (rs ≡ ts) × (r ≡ q)
  one_walk (stops e) (stops f) = (refl, same_refusal (sym e ∙ f))
  one_walk (stops e) (goes f w) = absurd (not_both (sym f ∙ e))
  one_walk (goes e w) (stops f) = absurd (not_both (sym e ∙ f))
  one_walk (goes {place = place} {x = x} {rs = rs} e w) (goes {x = y} {rs = ts} f v) =
      let same : y ≡ x = same_record (sym f ∙ e) in
      let more = one_walk w (rw same at v) in
      (ap (λ k. x ∷ k) more.0 ∙ ap (λ k. k ∷ ts) (sym same), more.1)

  module _ (fit : unfit l end ≡ false) where
    inside : (length l ≤ buffer_most) × (end ≤ length l)
    inside = fit_lengths l end fit

    rest_length : (place : ℕ) → place ≤ end → length (rest l end place) ≡ end - place
    rest_length place h = omega (arith, inside, length-take (end - place) (drop place l), length-drop place l)

    -- behind a record of n bytes
    rest_behind : (place n : ℕ) → place + n ≤ end → drop n (rest l end place) ≡ rest l end (place + n)
    rest_behind place n h =
        let part : end - place ≡ n + (end - (place + n)) = omega arith in
        ap (λ k. drop n (take k (drop place l))) part
        ∙ ap (drop n) (take-add n (end - (place + n)) (drop place l))
        ∙ drop_at (take n (drop place l)) _ n (length-take-le n (drop place l) (omega (arith, inside, length-drop place l)))
        ∙ ap (take (end - (place + n))) (drop-drop n place l)

    -- what the bytes from a place to the end divide into, and the walk from there
    data Divides (place : ℕ) : Type 0 where
      whole : (rs : List Record) → divide (rest l end place) ≡ records rs → RecordsFrom l end place rs (refusal no_such_record end) → Divides place
      cut : (rs : List Record) (k : ℕ) → divide (rest l end place) ≡ broken_at k → RecordsFrom l end place rs (refusal record_broken (place + k)) → Divides place

    divides_nothing : Divides end
    divides_nothing =
        let none : end - end ≡ 0 = omega arith in
        whole [] (ap (λ k. divide (take k (drop end l))) none ∙ divide_nothing) (stops (at_none l end end fit (omega arith)))

    divides_after : (place : ℕ) (x : Record) → place < end → decode (rest l end place) ≡ found x → Divides (place + size x) → Divides place
    divides_after place x h f d =
        let there : record_at l end place ≡ record_there x = at_some l end place fit h ∙ ap (decoded_at place) f in
        let fits : place + size x ≤ end = omega (arith, found_fits (rest l end place) f, rest_length place (omega arith)) in
        let next : divide (rest l end place) ≡ after x (divide (rest l end (place + size x))) = divide_found (rest l end place) f ∙ ap (λ t. after x (divide t)) (rest_behind place (size x) fits) in
        elim d [
          | whole rs e w ↦ whole (x ∷ rs) (next ∙ ap (after x) e) (goes there w)
          | cut rs k e w ↦ cut (x ∷ rs) (size x + k) (next ∙ ap (after x) e) (rw (← add_assoc place (size x) k) (goes there w))
        ]

    divides_broken : (place : ℕ) → place < end → decode (rest l end place) ≡ broken → Divides place
    divides_broken place h b =
        cut [] 0 (divide_broken (rest l end place) (omega (arith, rest_length place (omega arith))) b)
        (stops (at_some l end place fit h ∙ ap (decoded_at place) b ∙ ap (λ k. refused_there (refusal record_broken k)) (sym (add-zero place))))

    divides_at : (place : ℕ) → place < end → ((next : ℕ) → place < next → next ≤ end → Divides next) → (d : Decoded) → decode (rest l end place) ≡ d → Divides place
    divides_at place h on (found x) f =
        let fits = found_fits (rest l end place) f in
        divides_after place x h f (on (place + size x) (omega (arith, fits)) (omega (arith, fits, rest_length place (omega arith))))
    divides_at place h on broken b = divides_broken place h b

    divides_by : (n place : ℕ) → end ≤ place + n → place ≤ end → Divides place
    divides_by zero place h k = let e : end ≡ place = omega arith in rw (← e) divides_nothing
    divides_by (suc n) place h k =
        cases place end
        (λ t. divides_at place t (λ next a b. divides_by n next (omega arith) b) (decode (rest l end place)) refl)
        (λ t. let e : end ≡ place = omega arith in rw (← e) divides_nothing)

    divides : (place : ℕ) → place ≤ end → Divides place
    divides place h = divides_by end place (omega arith) h

    -- the walk that the bytes divide into
    pub walk_whole : (place : ℕ) {rs : List Record} → place ≤ end → divide (rest l end place) ≡ records rs → RecordsFrom l end place rs (refusal no_such_record end)
    walk_whole place {rs} h e =
        elim (divides place h) [
          | whole ts f w ↦ (let same : ts ≡ rs = same_records (sym f ∙ e) in rw same at w)
          | cut ts k f w ↦ absurd (not_cut (sym e ∙ f))
        ]

    pub walk_cut : (place : ℕ) {k : ℕ} → place ≤ end → divide (rest l end place) ≡ broken_at k → (rs : List Record) × RecordsFrom l end place rs (refusal record_broken (place + k))
    walk_cut place {k} h e =
        elim (divides place h) [
          | whole ts f w ↦ absurd (not_cut (sym f ∙ e))
          | cut ts i f w ↦ (let same : i ≡ k = same_offset (sym f ∙ e) in (ts, rw same at w))
        ]

    -- and what a walk that ends with 25, or with 23, says of the bytes
    pub whole_walk : (place : ℕ) {rs : List Record} {k : ℕ} → place ≤ end → RecordsFrom l end place rs (refusal no_such_record k) → (divide (rest l end place) ≡ records rs) × (k ≡ end)
    whole_walk place {rs} {k} h v =
        elim (divides place h) [
          | whole ts f w ↦ (let one = one_walk w v in (f ∙ ap records one.0, same_place (sym one.1)))
          | cut ts i f w ↦ absurd (not_number (one_walk w v).1)
        ]

    pub cut_walk : (place : ℕ) {rs : List Record} {k : ℕ} → place ≤ end → RecordsFrom l end place rs (refusal record_broken k)
        → (i : ℕ) × (divide (rest l end place) ≡ broken_at i) × (k ≡ place + i)
    cut_walk place {rs} {k} h v =
        elim (divides place h) [
          | whole ts f w ↦ absurd (not_number (one_walk v w).1)
          | cut ts i f w ↦ (i, f, same_place (sym (one_walk w v).1))
        ]

  -- ---- from any place there is a walk
  pub walk_ends : (place : ℕ) → (rs : List Record) × (r : Refusal) × RecordsFrom l end place rs r
  walk_ends place =
      by_place l end place (λ e. ([], _, stops e)) (λ u h e. ([], _, stops e)) (λ u h e. ([], _, stops e))
      (λ x u h f e. elim (divides u place (omega arith)) [ whole rs d w ↦ (rs, _, w) | cut rs k d w ↦ (rs, _, w) ])

-- ---- the walk over the records of a frame
same_frame : {r q : Refusal} → refused_frame r ≡ refused_frame q → r ≡ q
same_frame e = cc

not_read : {t : Tag} {s : ℕ} {rs : List Record} {r : Refusal} → frame_read t s rs ≡ refused_frame r → ⊥
not_read e = let z : ◌≡◌ {A = ℕ} 0 1 = cc in omega arith

module _ (l : List ℕ) (used number : ℕ) where
  -- of a frame that is located
  module _ (t : Tag) (s n : ℕ) (e : located l used number ≡ frame t s n) where
    fits : unfit l (s + n) ≡ false
    fits = let w = located_inside l used number (sym e) in is_fit l (s + n) w.1 (omega (arith, w))

    lent : rest l (s + n) s ≡ take n (drop s l)
    lent = let part : s + n - s ≡ n = omega arith in ap (λ k. take k (drop s l)) part

    framed_by_lem : framed l used number ≡ framed_by t s (divide (rest l (s + n) s))
    unfolding framed
    framed_by_lem = ap (framed_at_of l) e ∙ ap (λ k. framed_by t s (divide k)) (sym lent)

    -- a walk that comes to its end, or to a broken record
    pub walked_whole : {rs : List Record} {k : ℕ} → RecordsFrom l (s + n) s rs (refusal no_such_record k) → (framed l used number ≡ frame_read t s rs) × (k ≡ s + n)
    walked_whole w = let d = whole_walk l (s + n) fits s (omega arith) w in (framed_by_lem ∙ ap (framed_by t s) d.0, d.1)

    pub walked_cut : {rs : List Record} {k : ℕ} → RecordsFrom l (s + n) s rs (refusal record_broken k) → framed l used number ≡ refused_frame (refusal record_broken k)
    walked_cut w =
        let d = cut_walk l (s + n) fits s (omega arith) w in
        framed_by_lem ∙ ap (framed_by t s) d.1 ∙ ap (λ k. refused_frame (refusal record_broken k)) (sym d.2)

  -- a frame that is read is walked
  pub framed_walked : {t : Tag} {s : ℕ} {rs : List Record} → framed l used number ≡ frame_read t s rs
      → RecordsFrom l (s + length (encode_all rs)) s rs (refusal no_such_record (s + length (encode_all rs)))
  framed_walked {t} {s} {rs} q =
      let n = length (encode_all rs) in
      let e = framed_located l used number q in
      walk_whole l (s + n) (fits t s n e) s (omega arith) (ap divide (lent t s n e) ∙ framed_division l used number q)

  -- and one that is refused for a broken record is walked up to there
  abbrev UpTo : ℕ → Type 0
  UpTo k = (t : Tag) × (s : ℕ) × (n : ℕ) × (rs : List Record) × (located l used number ≡ frame t s n) × RecordsFrom l (s + n) s rs (refusal record_broken k)

  cut_by : (k : ℕ) (t : Tag) (s n : ℕ) → located l used number ≡ frame t s n → (d : Division) → divide (take n (drop s l)) ≡ d
      → framed_by t s d ≡ refused_frame (refusal record_broken k) → UpTo k
  cut_by k t s n e (records rs) f q = absurd (not_read q)
  cut_by k t s n e (broken_at i) f q =
      let same : s + i ≡ k = same_place (same_frame q) in
      let w = walk_cut l (s + n) (fits t s n e) s (omega arith) (ap divide (lent t s n e) ∙ f) in
      (t, s, n, w.0, e, rw same at w.1)

  cut_at : (k : ℕ) (x : Located) → located l used number ≡ x → framed_at_of l x ≡ refused_frame (refusal record_broken k) → UpTo k
  cut_at k (frame t s n) e q = cut_by k t s n e (divide (take n (drop s l))) refl q
  cut_at k (refused r) e q =
      let same : r.number ≡ record_broken = ap (λ x. x.number) (same_frame q) in
      absurd (rw same at (located_number (λ (m : ℕ). not (eqb m record_broken)) l tt tt tt used number e))

  pub broken_walked : {k : ℕ} → framed l used number ≡ refused_frame (refusal record_broken k) → UpTo k
  unfolding framed
  broken_walked {k} q = cut_at k (located l used number) refl q
