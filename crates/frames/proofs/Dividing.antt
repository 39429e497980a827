-- The division of bytes into records.
use mathlib.Core.List.{List, [], ◌∷◌, ◌++◌, append-nil, append_assoc}
use mathlib.Core.Path.{◌≡◌, refl, ap, sym, ◌∙◌}
use Prim.Native.Nat.{ℕ, zero, suc, ◌+◌, ◌≤◌, ◌<◌}
use native.Mathlib.Nat.{add_assoc, zero-add, not-suc-le-zero}
use native.Mathlib.Omega.{arith}
use lib.ListN.{length, drop, length-append, length-drop, drop_of_length-le}
use lib.Seq.{drop_at}
use Rattle.encoding.specs.Ranges.{AllBytes}
use Rattle.logic.proofs.Promises.{cases}
use Rattle.encoding.proofs.Promises.{below_drop}
use Rattle.frames.specs.Record.{Record, encode, encode_all, size, AllWellFormed, Decoded, found, broken, decode}
use Rattle.frames.specs.Division.{Division, records, broken_at, after, after_all, divide_on, divide_at_most, divide}
use Rattle.frames.proofs.Decoding.{size_encode, decode_encode, InFront, in_front, found_fits, encode_decode}

-- ---- any number of records that is enough gives the same
onward_same : (f g : List ℕ → Division) (l : List ℕ) (d : Decoded) → InFront l d
    → ((n : ℕ) → 1 ≤ n → n ≤ length l → f (drop n l) ≡ g (drop n l)) → divide_on f l d ≡ divide_on g l d
onward_same f g l (found r) h e = ap (after r) (e (size r) h.0 h.1)
onward_same f g l broken h e = refl

same_division : (n m : ℕ) (l : List ℕ) → length l ≤ n → length l ≤ m → divide_at_most n l ≡ divide_at_most m l
unfolding divide_at_most
same_division zero zero l h k = refl
same_division zero (suc m) [] h k = refl
same_division zero (suc m) (b ∷ l) h k = absurd (not-suc-le-zero h)
same_division (suc n) zero [] h k = refl
same_division (suc n) zero (b ∷ l) h k = absurd (not-suc-le-zero k)
same_division (suc n) (suc m) [] h k = refl
same_division (suc n) (suc m) (b ∷ l) h k =
    onward_same (λ t. divide_at_most n t) (λ t. divide_at_most m t) (b ∷ l) (decode (b ∷ l)) (in_front (b ∷ l))
    (λ i p q. same_division n m (drop i (b ∷ l)) (omega (arith, length-drop i (b ∷ l))) (omega (arith, length-drop i (b ∷ l))))

-- ---- the three equations of `divide`
pub divide_nothing : divide [] ≡ records []
unfolding divide_at_most divide
divide_nothing = refl

first_step : (l : List ℕ) → 0 < length l → divide l ≡ divide_on divide l (decode l)
unfolding divide_at_most divide
first_step [] h = absurd (not-suc-le-zero h)
first_step (b ∷ l) h =
    onward_same (λ t. divide_at_most (length l) t) divide (b ∷ l) (decode (b ∷ l)) (in_front (b ∷ l))
    (λ i p q. same_division (length l) (length (drop i (b ∷ l))) (drop i (b ∷ l)) (omega (arith, length-drop i (b ∷ l))) (omega arith))

pub divide_found : (l : List ℕ) {r : Record} → decode l ≡ found r → divide l ≡ after r (divide (drop (size r) l))
divide_found l e = first_step l (omega (arith, found_fits l e)) ∙ ap (divide_on divide l) e

pub divide_broken : (l : List ℕ) → 0 < length l → decode l ≡ broken → divide l ≡ broken_at 0
divide_broken l h e = first_step l h ∙ ap (divide_on divide l) e

-- ---- records, and what follows them
pub after_all_nothing : (rs : List Record) → after_all rs (records []) ≡ records rs
after_all_nothing [] = refl
after_all_nothing (r ∷ rs) = ap (after r) (after_all_nothing rs)

pub after_all_more : (rs : List Record) (r : Record) (d : Division) → after_all rs (after r d) ≡ after_all (rs ++ (r ∷ [])) d
after_all_more [] r d = refl
after_all_more (q ∷ rs) r d = ap (after q) (after_all_more rs r d)

pub after_all_broken : (rs : List Record) (i : ℕ) → after_all rs (broken_at i) ≡ broken_at (length (encode_all rs) + i)
unfolding encode_all
after_all_broken [] i = rw zero-add
after_all_broken (r ∷ rs) i = rw (after_all_broken rs i, length-append (encode r) (encode_all rs), size_encode r, add_assoc)

pub encode_all_append : (rs ts : List Record) → encode_all (rs ++ ts) ≡ encode_all rs ++ encode_all ts
unfolding encode_all
encode_all_append [] ts = refl
encode_all_append (r ∷ rs) ts = ap (λ l. encode r ++ l) (encode_all_append rs ts) ∙ sym (append_assoc (encode r) (encode_all rs) (encode_all ts))

pub encode_all_more : (rs : List Record) (r : Record) → encode_all (rs ++ (r ∷ [])) ≡ encode_all rs ++ encode r
unfolding encode_all
encode_all_more rs r = encode_all_append rs (r ∷ []) ∙ ap (λ l. encode_all rs ++ l) (append-nil (encode r))

-- ---- the division of what was encoded
pub divide_encoded : (rs : List Record) (l : List ℕ) → AllWellFormed rs → divide (encode_all rs ++ l) ≡ after_all rs (divide l)
unfolding encode_all
divide_encoded [] l w = refl
divide_encoded (r ∷ rs) l w =
    rw append_assoc
    (divide_found (encode r ++ (encode_all rs ++ l)) (decode_encode r (encode_all rs ++ l) w.0)
    ∙ ap (λ t. after r (divide t)) (drop_at (encode r) (encode_all rs ++ l) (size r) (size_encode r))
    ∙ ap (after r) (divide_encoded rs l w.1))

pub divide_all : (rs : List Record) → AllWellFormed rs → divide (encode_all rs) ≡ records rs
divide_all rs w =
    ap divide (sym (append-nil (encode_all rs))) ∙ divide_encoded rs [] w ∙ ap (after_all rs) divide_nothing ∙ after_all_nothing rs

-- ---- and the bytes that are divided
split : {X : Type 0} (r : Record) (d : Division) (rs : List Record) → after r d ≡ records rs
    → ((ts : List Record) → d ≡ records ts → rs ≡ r ∷ ts → X) → X
split r (records ts) rs e k = k ts refl (cc)
split r (broken_at i) rs e k = let z : ◌≡◌ {A = ℕ} 0 1 = cc in absurd (omega arith)

abbrev Encoded : List ℕ → List Record → Type 0
Encoded l rs = AllWellFormed rs × (l ≡ encode_all rs)

module _ (l : List ℕ) (bytes : AllBytes l) (f : List ℕ → Division)
    (again : (r : Record) → 1 ≤ size r → (ts : List Record) → f (drop (size r) l) ≡ records ts → Encoded (drop (size r) l) ts) where
  onward_again : (d : Decoded) → decode l ≡ d → (rs : List Record) → divide_on f l d ≡ records rs → Encoded l rs
  unfolding encode_all
  onward_again (found r) e rs p =
      split r (f (drop (size r) l)) rs p λ ts q s.
      let rest = again r (found_fits l e).0 ts q in
      let front = encode_decode l bytes e in
      rw s ((front.0, rest.0), front.1 ∙ ap (λ t. encode r ++ t) rest.1)
  onward_again broken e rs p = let z : ◌≡◌ {A = ℕ} 0 1 = cc in absurd (omega arith)

encoded_by : (n : ℕ) (l : List ℕ) → length l ≤ n → AllBytes l → (rs : List Record) → divide_at_most n l ≡ records rs → Encoded l rs
unfolding divide_at_most encode_all
encoded_by zero [] h bytes rs e = let s : rs ≡ [] = cc in rw s (tt, refl)
encoded_by zero (b ∷ l) h bytes rs e = absurd (not-suc-le-zero h)
encoded_by (suc n) [] h bytes rs e = let s : rs ≡ [] = cc in rw s (tt, refl)
encoded_by (suc n) (b ∷ l) h bytes rs e =
    onward_again (b ∷ l) bytes (λ t. divide_at_most n t)
    (λ r p ts q. encoded_by n (drop (size r) (b ∷ l)) (omega (arith, length-drop (size r) (b ∷ l)))
    (below_drop 256 (size r) (b ∷ l) bytes) ts q)
    (decode (b ∷ l)) refl rs e

pub divided_encoded : (l : List ℕ) → AllBytes l → (rs : List Record) → divide l ≡ records rs → AllWellFormed rs × (l ≡ encode_all rs)
unfolding divide
divided_encoded l bytes rs e = encoded_by (length l) l (omega arith) bytes rs e

-- ---- the first record of bytes that divide
module _ (l : List ℕ) (r : Record) (ts : List Record) (e : divide l ≡ records (r ∷ ts)) where
  abbrev First : Type 0
  First = (decode l ≡ found r) × (divide (drop (size r) l) ≡ records ts)

  first_by : (d : Decoded) → decode l ≡ d → 0 < length l → First
  first_by (found q) h s =
      split q (divide (drop (size q) l)) (r ∷ ts) (sym (divide_found l h) ∙ e) λ us p k.
      let same : r ≡ q = cc in
      let rest : ts ≡ us = cc in
      rw (same, rest) (h, p)
  first_by broken h s = let b = sym (divide_broken l s h) ∙ e in absurd (let z : ◌≡◌ {A = ℕ} 0 1 = cc in omega arith)

  pub divided_some : 0 < length l
  divided_some =
      cases 0 (length l) (λ h. h) λ h.
      let n : l ≡ [] = drop_of_length-le l {i = 0} h in
      let b = sym (ap divide n ∙ divide_nothing) ∙ e in
      absurd (let z : ◌≡◌ {A = ℕ} 0 1 = cc in omega arith)

  pub divided_first : First
  divided_first = first_by (decode l) refl divided_some

-- ---- the records take all the bytes, or a broken one lies within them
Covers : ℕ → Division → Type 0
Covers n (records rs) = n ≡ length (encode_all rs)
Covers n (broken_at i) = i < n

after_covers : (r : Record) (d : Division) (m n : ℕ) → n ≡ size r + m → Covers m d → Covers n (after r d)
unfolding Covers encode_all
after_covers r (records rs) m n h w = h ∙ rw (length-append (encode r) (encode_all rs), size_encode r, ← w)
after_covers r (broken_at i) m n h w = omega (arith, w)

onward_covers : (f : List ℕ → Division) (l : List ℕ) (d : Decoded) → 0 < length l → InFront l d
    → ((i : ℕ) → 1 ≤ i → i ≤ length l → Covers (length (drop i l)) (f (drop i l))) → Covers (length l) (divide_on f l d)
unfolding Covers
onward_covers f l (found r) s h g =
    after_covers r (f (drop (size r) l)) (length (drop (size r) l)) (length l) (omega (arith, h, length-drop (size r) l)) (g (size r) h.0 h.1)
onward_covers f l broken s h g = s

covers_by : (n : ℕ) (l : List ℕ) → length l ≤ n → Covers (length l) (divide_at_most n l)
unfolding Covers divide_at_most encode_all
covers_by zero [] h = refl
covers_by zero (b ∷ l) h = absurd (not-suc-le-zero h)
covers_by (suc n) [] h = refl
covers_by (suc n) (b ∷ l) h =
    onward_covers (λ t. divide_at_most n t) (b ∷ l) (decode (b ∷ l)) (omega arith) (in_front (b ∷ l))
    (λ i p q. covers_by n (drop i (b ∷ l)) (omega (arith, length-drop i (b ∷ l))))

module _ (l : List ℕ) where
  pub broken_inside : {i : ℕ} → divide l ≡ broken_at i → i < length l
  unfolding Covers divide
  broken_inside e = rw e at (covers_by (length l) l (omega arith))

  pub divided_length : {rs : List Record} → divide l ≡ records rs → length l ≡ length (encode_all rs)
  unfolding Covers divide
  divided_length e = rw e at (covers_by (length l) l (omega arith))
