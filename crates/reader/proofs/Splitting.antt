-- The division of a frame into records, as the code goes through it.
use mathlib.Core.List.{List, [], ◌∷◌, ◌++◌}
use mathlib.Core.Path.{◌≡◌, refl, ap, sym, ◌∙◌}
use mathlib.Core.Bool.{cond}
use Prim.Native.Nat.{ℕ, zero, suc, ◌+◌, ◌-◌, ◌≤◌, ◌<◌}
use lib.Dec.{ltb}
use Rattle.std.proofs.Common.{lt-ltb, le-ltb}
use native.Mathlib.Nat.{zero-add, add-zero, add_assoc, not-suc-le-zero}
use native.Mathlib.Omega.{arith}
use lib.ListN.{length, drop, length-append, length-drop, drop_of_length-le}
use lib.Seq.{drop-drop}
use Rattle.logic.proofs.Promises.{cases}
use Rattle.frames.specs.Record.{Record, memory, variable, size, encode, encode_all, found, decode}
use Rattle.frames.specs.Division.{Division, records, broken_at, after, after_all, divide}
use Rattle.frames.specs.Joining.Answers.{size_of}
use Rattle.frames.proofs.Promises.{length_encode, found_fits, encode_all_more, divide_nothing, divide_found, divide_broken}
use Rattle.frames.proofs.Promises.{after_all_nothing, after_all_more, after_all_broken, divided_first, divided_length, by_size}
use Rattle.std.proofs.Common.{Option, Some, None, IsSome, Ok, Err}
use Rattle.refusals.specs.Numbers.{record_broken, no_such_record}
use Rattle.refusals.specs.Refusal.{refusal, told as refusal_told}
use Rattle.refusals.specs.declared.Refusal as code_refusal
use Rattle.frames.specs.declared.Tag.{Tag}
use Rattle.reader.specs.Framed.{framed_by}
use Rattle.reader.specs.Answers.{read_as}
use Rattle.reader.specs.Read.{refused_read, told, record_read, record_in, counted, count_in}
use Rattle.reader.specs.Joining.Splitting.{offset_in, SplitAs, found_of, FoundAt}
use Rattle.reader.specs.declared.Split.{Split}
use Rattle.reader.specs.declared.Found.{Found}

-- ---- the offset of a record, with one more record behind
offset_last : (o : ℕ) (rs : List Record) (r : Record) → offset_in o (length rs) (rs ++ (r ∷ [])) ≡ Some (o + length (encode_all rs))
unfolding encode_all
offset_last o [] r = ap Some (sym (add-zero o))
offset_last o (q ∷ rs) r = offset_last (o + size q) rs r ∙ rw (length-append (encode q) (encode_all rs), length_encode q, add_assoc)

offset_other : (o i : ℕ) (rs : List Record) (r : Record) → (length rs ≡ i → ⊥) → offset_in o i (rs ++ (r ∷ [])) ≡ offset_in o i rs
offset_other o zero [] r h = absurd (h refl)
offset_other o (suc i) [] r h = refl
offset_other o zero (q ∷ rs) r h = refl
offset_other o (suc i) (q ∷ rs) r h = offset_other (o + size q) i rs r (λ e. h (ap suc e))

offset_none : (o i : ℕ) (rs : List Record) → length rs ≤ i → offset_in o i rs ≡ None
offset_none o i [] h = refl
offset_none o zero (q ∷ rs) h = absurd (not-suc-le-zero h)
offset_none o (suc i) (q ∷ rs) h = offset_none (o + size q) i rs (omega arith)

-- ---- the loop: the records before `at`
pub record Through (l : List ℕ) (wanted at count : ℕ) (seen : Option ℕ) : Type 0 where
  pub passed : List Record
  pub same : divide l ≡ after_all passed (divide (drop at l))
  pub place : at ≡ length (encode_all passed)
  pub inside : at ≤ length l
  pub counts : count ≡ length passed
  pub few : count ≤ at
  pub offset : seen ≡ offset_in 0 wanted passed

pub through_begins : (l : List ℕ) (wanted : ℕ) → Through l wanted 0 0 None
unfolding encode_all
through_begins l wanted = record { passed = []; same = refl; place = refl; inside = omega arith; counts = refl; few = omega arith; offset = refl }

-- The offset of the record wanted, where it was met: the loop keeps the offset alone.
abbrev pub seen_by : ℕ → ℕ → ℕ → Option ℕ
seen_by wanted count offset = cond (ltb wanted count) (Some offset) None

seen_here : (count offset : ℕ) → seen_by count (count + 1) offset ≡ Some offset
seen_here count offset = rw (lt-ltb count (count + 1) (omega arith))

seen_before : (wanted count offset : ℕ) → (count ≡ wanted → ⊥) → seen_by wanted (count + 1) offset ≡ seen_by wanted count offset
seen_before wanted count offset h =
    cases count wanted (λ b. let c : count + 1 ≤ wanted = omega (arith, b, h) in let d : count ≤ wanted = omega (arith, c) in rw (le-ltb wanted (count + 1) c, le-ltb wanted count d))
    (λ b. let c : wanted < count = omega (arith, b, h) in rw (lt-ltb wanted (count + 1) (omega (arith, c)), lt-ltb wanted count c))

pub seen_some : {wanted count : ℕ} (offset : ℕ) → wanted < count → seen_by wanted count offset ≡ Some offset
seen_some {wanted} {count} offset h = rw (lt-ltb wanted count h)

pub seen_none : {wanted count : ℕ} (offset : ℕ) → count ≤ wanted → seen_by wanted count offset ≡ None
seen_none {wanted} {count} offset h = rw (le-ltb wanted count h)

-- what is left of the bytes, with `left` bytes left at the record wanted
pub record Left (l rest : List ℕ) (wanted count left : ℕ) : Type 0 where
  pub at : ℕ
  pub behind : rest ≡ drop at l
  pub whole : at + length rest ≡ length l
  pub through : Through l wanted at count (seen_by wanted count (length l - left))

module _ {l : List ℕ} {wanted at count : ℕ} {seen : Option ℕ} (w : Through l wanted at count seen) where
  pub through_ends : length l ≤ at → (s : ℕ) → SplitAs s wanted (divide l) (Ok (record { count = count; found = seen }))
  through_ends h s =
      let all : divide l ≡ records w.passed =
      w.same ∙ ap (λ t. after_all w.passed (divide t)) (drop_of_length-le l {i = at} h) ∙ ap (after_all w.passed) divide_nothing ∙ after_all_nothing w.passed in
      rw all (w.counts, w.offset)

  module _ (h : at < length l) where
    pub through_broken : None ≡ size_of (decode (drop at l)) → divide l ≡ broken_at at
    through_broken e =
        by_size (decode (drop at l))
        (λ b s. let all : divide l ≡ broken_at (length (encode_all w.passed) + 0) =
        w.same ∙ ap (after_all w.passed) (divide_broken (drop at l) (omega (arith, length-drop at l)) b) ∙ after_all_broken w.passed 0 in
        rw (all, add-zero, ← w.place))
        (λ r f s. cc)

    module _ {n : ℕ} (e : Some n ≡ size_of (decode (drop at l))) where
      by_found : {X : Type 0} → ((r : Record) → decode (drop at l) ≡ found r → n ≡ size r → X) → X
      by_found f = by_size (decode (drop at l)) (λ b s. cc) (λ r p s. f r p (cc))

      pub through_fits : at + n ≤ length l
      through_fits = by_found (λ r f s. omega (arith, found_fits (drop at l) f, s, length-drop at l))

      Noted : Option ℕ → Type 0
      Noted x = (r : Record) → x ≡ offset_in 0 wanted (w.passed ++ (r ∷ []))

      more : {x : Option ℕ} → Noted x → Through l wanted (at + n) (count + 1) x
      unfolding Noted
      more q = by_found λ r f s. record {
        passed = w.passed ++ (r ∷ []);
        same = w.same ∙ ap (after_all w.passed) (divide_found (drop at l) f ∙ ap (λ t. after r (divide t)) (drop-drop (size r) at l ∙ ap (λ k. drop (at + k) l) (sym s)))
            ∙ after_all_more w.passed r (divide (drop (at + n) l));
        place = rw (encode_all_more w.passed r, length-append (encode_all w.passed) (encode r), length_encode r, ← s, ← w.place);
        inside = through_fits;
        counts = rw (length-append w.passed (r ∷ []), ← w.counts);
        few = omega (arith, found_fits (drop at l) f, w.few);
        offset = q r;
      }

      -- the offset is noted at the record wanted, and kept at any other
      pub through_here : count ≡ wanted → {x : Option ℕ} → x ≡ Some at → Through l wanted (at + n) (count + 1) x
      unfolding Noted
      through_here p q = more λ r.
          q ∙ ap Some (w.place ∙ sym (zero-add (length (encode_all w.passed)))) ∙ sym (offset_last 0 w.passed r)
          ∙ ap (λ i. offset_in 0 i (w.passed ++ (r ∷ []))) (sym w.counts ∙ p)

      pub through_other : (count ≡ wanted → ⊥) → {x : Option ℕ} → x ≡ seen → Through l wanted (at + n) (count + 1) x
      unfolding Noted
      through_other p q = more λ r. q ∙ w.offset ∙ sym (offset_other 0 wanted w.passed r (λ e. p (w.counts ∙ e)))

-- ---- the loop
module _ {l rest : List ℕ} {wanted count left : ℕ} (w : Left l rest wanted count left) where
  pub left_inside : length rest ≤ length l
  left_inside = omega (arith, w.whole)

  pub left_place : w.at ≡ length l - length rest
  left_place = omega (arith, w.whole)

  module _ (h : 0 < length rest) where
    in_bytes : w.at < length l
    in_bytes = omega (arith, w.whole, h)

    pub left_broken : None ≡ size_of (decode rest) → divide l ≡ broken_at (length l - length rest)
    left_broken e = through_broken w.through in_bytes (rw w.behind at e) ∙ ap broken_at left_place

    module _ {n : ℕ} (e : Some n ≡ size_of (decode rest)) where
      here : Some n ≡ size_of (decode (drop w.at l))
      here = rw w.behind at e

      pub left_fits : n ≤ length rest
      left_fits = omega (arith, through_fits w.through in_bytes here, w.whole)

      module _ (next : List ℕ) (q : next ≡ drop n rest) where
        behind_next : next ≡ drop (w.at + n) l
        behind_next = q ∙ ap (drop n) w.behind ∙ drop-drop n w.at l

        whole_next : w.at + n + length next ≡ length l
        whole_next = omega (arith, ap length q, length-drop n rest, w.whole, left_fits)

        pub left_here : count ≡ wanted → Left l next wanted (count + 1) (length rest)
        left_here p = record {
          at = w.at + n;
          behind = behind_next;
          whole = whole_next;
          through = through_here w.through in_bytes here p
              (ap (λ k. seen_by k (count + 1) (length l - length rest)) (sym p) ∙ seen_here count (length l - length rest) ∙ ap Some (sym left_place));
        }

        pub left_other : (count ≡ wanted → ⊥) → Left l next wanted (count + 1) left
        left_other p = record {
          at = w.at + n;
          behind = behind_next;
          whole = whole_next;
          through = through_other w.through in_bytes here p (seen_before wanted count (length l - left) p);
        }

  module _ (h : length rest ≤ 0) (s : ℕ) where
    pub left_some : wanted < count → SplitAs s wanted (divide l) (Ok (record { count = count; found = Some (length l - left) }))
    left_some p = rw (seen_some {wanted = wanted} {count = count} (length l - left) p) at (through_ends w.through (omega (arith, w.whole, h)) s)

    pub left_none : count ≤ wanted → SplitAs s wanted (divide l) (Ok (record { count = count; found = None }))
    left_none p = rw (seen_none {wanted = wanted} {count = count} (length l - left) p) at (through_ends w.through (omega (arith, w.whole, h)) s)

pub left_all : (l : List ℕ) (wanted : ℕ) → Left l l wanted 0 0
left_all l wanted = record {
  at = 0;
  behind = refl;
  whole = omega arith;
  through = rw (seen_none {wanted = wanted} {count = 0} (length l - 0) (omega arith)) (through_begins l wanted);
}

-- ---- the record of a number
-- it is found at its offset, and what is read of it is told from there
pub record Numbered (l : List ℕ) (i : ℕ) (rs : List Record) (o : ℕ) : Type 0 where
  pub which : Record
  pub at : ℕ
  pub noted : offset_in o i rs ≡ Some at
  pub there : decode (drop at l) ≡ found which
  pub tells : (t : Tag) (s : ℕ) → record_read t s (s + o) i rs ≡ told t (s + at) which

pub numbered : (l : List ℕ) (o i : ℕ) (rs : List Record) → divide (drop o l) ≡ records rs → i < length rs → Numbered l i rs o
numbered l o i [] e h = absurd (not-suc-le-zero h)
numbered l o zero (r ∷ rs) e h = record { which = r; at = o; noted = refl; there = (divided_first (drop o l) r rs e).0; tells = λ t s. refl }
numbered l o (suc i) (r ∷ rs) e h =
    let rest = numbered l (o + size r) i rs (ap divide (sym (drop-drop (size r) o l)) ∙ (divided_first (drop o l) r rs e).1) (omega arith) in
    record {
      which = rest.which;
      at = rest.at;
      noted = rest.noted;
      there = rest.there;
      tells = λ t s. ap (λ k. record_read t s k i rs) (add_assoc s o (size r)) ∙ rest.tells t s;
    }

-- past the last one there is none
pub unnumbered : (t : Tag) (s o i : ℕ) (rs : List Record) → length rs ≤ i → refused_read (refusal no_such_record s) ≡ record_read t s o i rs
unnumbered t s o i [] h = refl
unnumbered t s o zero (r ∷ rs) h = absurd (not-suc-le-zero h)
unnumbered t s o (suc i) (r ∷ rs) h = unnumbered t s (o + size r) i rs (omega arith)

-- ---- what the code's answer says
split_whole : (s i : ℕ) (d : Division) (x : Split) → SplitAs s i d (Ok x) → (rs : List Record) × (d ≡ records rs) × (x.count ≡ length rs) × (x.found ≡ offset_in 0 i rs)
split_whole s i (records rs) x w = (rs, refl, w.0, w.1)
split_whole s i (broken_at k) x w = absurd w

pub split_broken : (s i : ℕ) (d : Division) (x : code_refusal.Refusal) → SplitAs s i d (Err x) → (k : ℕ) × (d ≡ broken_at k) × (refusal_told x ≡ refusal record_broken (s + k))
split_broken s i (records rs) x w = absurd w
split_broken s i (broken_at k) x w = (k, refl, w)

found_told : (t : Tag) (o : ℕ) (r : Record) → read_as t (found_of o r) ≡ told t o r
found_told t o (memory a bytes) = refl
found_told t o (variable k v) = refl

module _ (l : List ℕ) (s i : ℕ) (x : Split) (e : SplitAs s i (divide l) (Ok x)) where
  pub counts_records : (t : Tag) (k : ℕ) → length l ≡ k → counted t s k x.count ≡ count_in (framed_by t s (divide l))
  counts_records t k h =
      let w = split_whole s i (divide l) x e in
      let long : k ≡ length (encode_all w.0) = sym h ∙ divided_length l w.1 in
      ap (λ m. counted t s m x.count) long ∙ ap (counted t s (length (encode_all w.0))) w.2 ∙ ap (λ d. count_in (framed_by t s d)) (sym w.1)

  -- the record of number i stands at o
  pub record Chosen (o : ℕ) : Type 0 where
    pub which : Record
    pub there : decode (drop o l) ≡ found which
    pub inside : o + size which ≤ length l
    pub some : IsSome (size_of (decode (drop o l)))
    pub tells : (t : Tag) → told t (s + o) which ≡ record_in i (framed_by t s (divide l))

  chosen_by : (rs : List Record) → divide l ≡ records rs → {o : ℕ} → offset_in 0 i rs ≡ Some o → i < length rs → Chosen o
  chosen_by rs d {o} q h =
      let c = numbered l 0 i rs d h in
      let same : c.at ≡ o = let p = c.noted in cc in
      let there : decode (drop o l) ≡ found c.which = ap (λ k. decode (drop k l)) (sym same) ∙ c.there in
      record {
        which = c.which;
        there = there;
        inside = omega (arith, found_fits (drop o l) there, length-drop o l);
        some = rw there refl;
        tells = λ t. ap (λ k. told t (s + k) c.which) (sym same) ∙ sym (c.tells t s) ∙ ap (λ k. record_read t s k i rs) (add-zero s) ∙ ap (λ d. record_in i (framed_by t s d)) (sym d);
      }

  pub one_read : {o : ℕ} → x.found ≡ Some o → Chosen o
  one_read {o} q =
      let w = split_whole s i (divide l) x e in
      cases i (length w.0) (λ h. chosen_by w.0 w.1 (sym w.3 ∙ q) h) (λ h. let n = offset_none 0 i w.0 h in let a = w.3 in cc)

  pub none_read : x.found ≡ None → (t : Tag) → refused_read (refusal no_such_record s) ≡ record_in i (framed_by t s (divide l))
  none_read q t =
      let w = split_whole s i (divide l) x e in
      cases i (length w.0) (λ h. let n = (numbered l 0 i w.0 w.1 h).noted in let a = w.3 in cc)
      (λ h. unnumbered t s s i w.0 h ∙ ap (λ d. record_in i (framed_by t s d)) (sym w.1))

  -- what is told of the record
  pub read_told : {o : ℕ} → x.found ≡ Some o → (y : Found) → FoundAt (s + o) (decode (drop o l)) y → (t : Tag) → read_as t y ≡ record_in i (framed_by t s (divide l))
  read_told {o} q v f t =
      let c = one_read q in
      let y : v ≡ found_of (s + o) c.which = rw c.there at f in
      ap (read_as t) y ∙ found_told t (s + o) c.which ∙ c.tells t
