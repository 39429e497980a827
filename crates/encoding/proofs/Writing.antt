-- Bytes written into a list, and a part of a buffer that is lent out and comes back.
use mathlib.Core.List.{List, [], ◌∷◌, ◌++◌, append-nil}
use mathlib.Core.Path.{◌≡◌, refl, ap, sym, ◌∙◌}
use Prim.Native.Nat.{ℕ, zero, suc, ◌+◌, ◌-◌, ◌≤◌}
use native.Mathlib.Nat.{zero-add, suc-add, le_of_suc-le-suc, not-suc-le-zero}
use native.Mathlib.Omega.{arith}
use lib.ListN.{length, take, drop, set, length-drop, drop_of_length-le, take-append-drop}
use lib.Seq.{take_all, take-nil, take-add, length-take-le, drop-drop}
use borrow.Rule.Slice.PartMut.{put_mid}
use Rattle.encoding.specs.Written.{written_at}

pub written_length : (l : List ℕ) (a : ℕ) (e : List ℕ) → length (written_at l a e) ≡ length l
unfolding written_at
written_length [] a e = refl
written_length (x ∷ l) zero [] = refl
written_length (x ∷ l) zero (b ∷ e) = ap suc (written_length l zero e)
written_length (x ∷ l) (suc a) e = ap suc (written_length l a e)

pub written_nothing : (l : List ℕ) (a : ℕ) → written_at l a [] ≡ l
unfolding written_at
written_nothing [] a = refl
written_nothing (x ∷ l) zero = refl
written_nothing (x ∷ l) (suc a) = ap (λ r. x ∷ r) (written_nothing l a)

-- e, and then f behind it
pub written_more : (l : List ℕ) (a : ℕ) (e f : List ℕ) → written_at (written_at l a e) (a + length e) f ≡ written_at l a (e ++ f)
unfolding written_at
written_more [] a e f = refl
written_more (x ∷ l) zero [] f = refl
written_more (x ∷ l) zero (b ∷ e) f = let h = written_more l zero e f in rw zero-add (ap (λ r. b ∷ r) (rw zero-add at h))
written_more (x ∷ l) (suc a) e f = rw suc-add (ap (λ r. x ∷ r) (written_more l a e f))

-- a part of e, and then e over it
written_again : (l : List ℕ) (a : ℕ) (e : List ℕ) (n : ℕ) → written_at (written_at l a (take n e)) a e ≡ written_at l a e
unfolding written_at
written_again [] a e n = refl
written_again (x ∷ l) zero [] n = rw (take-nil, written_nothing)
written_again (x ∷ l) zero (b ∷ e) zero = refl
written_again (x ∷ l) zero (b ∷ e) (suc n) = ap (λ r. b ∷ r) (written_again l zero e n)
written_again (x ∷ l) (suc a) e n = ap (λ r. x ∷ r) (written_again l a e n)

-- the first k bytes of e, and then those from j on, which overlap them
pub written_over : (l : List ℕ) (a : ℕ) (e : List ℕ) (j k : ℕ) → j ≤ k → k ≤ length e → written_at (written_at l a (take k e)) (a + j) (drop j e) ≡ written_at l a e
written_over l a e j k h w =
    let front = written_at l a (take j e) in
    let seam : (r : List ℕ) → written_at front (a + j) r ≡ written_at l a (take j e ++ r)
    = λ r. ap (λ (i : ℕ). written_at front (a + i) r) (sym (length-take-le j e (omega arith))) ∙ written_more l a (take j e) r in
    let split : take k e ≡ take j e ++ take (k - j) (drop j e)
    = ap (λ (i : ℕ). take i e) (let d : k ≡ j + (k - j) = omega arith in d) ∙ take-add j (k - j) e in
    ap (λ (r : List ℕ). written_at r (a + j) (drop j e)) (ap (λ (r : List ℕ). written_at l a r) split ∙ sym (seam (take (k - j) (drop j e))))
    ∙ written_again front (a + j) (drop j e) (k - j)
    ∙ seam (drop j e)
    ∙ ap (λ (r : List ℕ). written_at l a r) (take-append-drop j e)

-- a single store
pub written_store : (l : List ℕ) (a v : ℕ) → set l a v ≡ written_at l a (v ∷ [])
unfolding written_at
written_store [] a v = refl
written_store (x ∷ l) zero v = ap (λ r. v ∷ r) (sym (written_nothing l zero))
written_store (x ∷ l) (suc a) v = ap (λ r. x ∷ r) (written_store l a v)

-- a store behind e, as a loop makes it
pub written_snoc : (l : List ℕ) (a n : ℕ) (e : List ℕ) (v : ℕ) → length e ≡ n → set (written_at l a e) (a + n) v ≡ written_at l a (e ++ (v ∷ []))
written_snoc l a n e v h = rw (← h, written_store, written_more)

-- up to n, which is not behind e: what stood before a, and e
pub written_upto : (l : List ℕ) (a : ℕ) (e : List ℕ) (n : ℕ) → n ≤ length l → n ≤ a + length e → take n (written_at l a e) ≡ take n (take a l ++ e)
unfolding written_at
written_upto l a e zero g h = refl
written_upto [] a e (suc n) g h = absurd (omega arith)
written_upto (x ∷ l) zero [] (suc n) g h = absurd (omega arith)
written_upto (x ∷ l) zero (b ∷ e) (suc n) g h = ap (λ r. b ∷ r) (written_upto l zero e n (omega arith) (omega arith))
written_upto (x ∷ l) (suc a) e (suc n) g h = ap (λ r. x ∷ r) (written_upto l a e n (omega arith) (omega arith))

-- behind e every byte is as before
pub written_behind : (l : List ℕ) (a : ℕ) (e : List ℕ) (n : ℕ) → a + length e ≤ n → drop n (written_at l a e) ≡ drop n l
unfolding written_at
written_behind [] a e n h = refl
written_behind (x ∷ l) zero [] n h = refl
written_behind (x ∷ l) zero (b ∷ e) zero h = absurd (omega arith)
written_behind (x ∷ l) zero (b ∷ e) (suc n) h = written_behind l zero e n (omega arith)
written_behind (x ∷ l) (suc a) e zero h = absurd (omega arith)
written_behind (x ∷ l) (suc a) e (suc n) h = written_behind l a e n (omega arith)

-- nothing is written behind the end
pub written_past : (l : List ℕ) (a : ℕ) (e : List ℕ) → length l ≤ a → written_at l a e ≡ l
unfolding written_at
written_past [] a e h = refl
written_past (x ∷ l) zero e h = absurd (omega arith)
written_past (x ∷ l) (suc a) e h = ap (λ r. x ∷ r) (written_past l a e (omega arith))

-- the form with take and drop
pub written_form : (l : List ℕ) (a : ℕ) (e : List ℕ) → a + length e ≤ length l → written_at l a e ≡ take a l ++ (e ++ drop (a + length e) l)
unfolding written_at
written_form [] zero [] h = refl
written_form [] zero (b ∷ e) h = absurd (omega arith)
written_form [] (suc a) e h = absurd (omega arith)
written_form (x ∷ l) zero [] h = refl
written_form (x ∷ l) zero (b ∷ e) h =
    let i = written_form l zero e (omega arith) in
    rw zero-add (ap (λ r. b ∷ r) (rw zero-add at i))
written_form (x ∷ l) (suc a) e h = rw suc-add (ap (λ r. x ∷ r) (written_form l a e (omega arith)))

-- a copy to a part that is lent as `&mut l[a..a + k]`
pub part_copied : (l : List ℕ) (a k : ℕ) (e : List ℕ) → a + length e ≤ length l → length e ≡ k → put_mid a k l e ≡ written_at l a e
part_copied l a k e h q =
    ap (λ (r : List ℕ). take a l ++ (e ++ r)) (drop-drop k a l ∙ ap (λ (n : ℕ). drop (a + n) l) (sym q)) ∙ sym (written_form l a e h)

-- the written bytes read back
pub written_read : (l : List ℕ) (a : ℕ) (e : List ℕ) → a + length e ≤ length l → take (length e) (drop a (written_at l a e)) ≡ e
unfolding written_at
written_read [] zero [] h = refl
written_read [] zero (b ∷ e) h = absurd (omega arith)
written_read [] (suc a) e h = absurd (omega arith)
written_read (x ∷ l) zero [] h = refl
written_read (x ∷ l) zero (b ∷ e) h = ap (λ r. b ∷ r) (written_read l zero e (omega arith))
written_read (x ∷ l) (suc a) e h = written_read l a e (omega arith)

-- ---- the free part of a buffer l, from u on
-- written at u is written at the front of the part
pub written_part : (l : List ℕ) (u : ℕ) (e : List ℕ) → u ≤ length l → written_at l u e ≡ take u l ++ written_at (drop u l) 0 e
unfolding written_at
written_part [] zero e h = refl
written_part [] (suc u) e h = absurd (not-suc-le-zero h)
written_part (x ∷ l) zero e h = refl
written_part (x ∷ l) (suc u) e h = ap (λ r. x ∷ r) (written_part l u e (le_of_suc-le-suc h))

module _ (l : List ℕ) (u : ℕ) where
  -- what is lent as `&mut l[u..]`
  pub part_lent : take (length l - u) (drop u l) ≡ drop u l
  part_lent = take_all (length l - u) (drop u l) (omega (arith, length-drop u l))

  pub part_length : length (take (length l - u) (drop u l)) ≡ length l - u
  part_length = ap length part_lent ∙ length-drop u l

  module _ (h : u ≤ length l) where
    -- the whole buffer, when the part comes back as p
    pub part_back : (p : List ℕ) → take u l ++ (p ++ drop (length l - u) (drop u l)) ≡ take u l ++ p
    part_back p = rw (drop_of_length-le (drop u l) {i = length l - u} (omega (arith, length-drop u l)), append-nil)

    pub part_written : (e : List ℕ) → take u l ++ (written_at (take (length l - u) (drop u l)) 0 e ++ drop (length l - u) (drop u l)) ≡ written_at l u e
    part_written e = part_back (written_at (take (length l - u) (drop u l)) 0 e) ∙ ap (λ p. take u l ++ written_at p 0 e) part_lent ∙ sym (written_part l u e h)

    pub part_same : take u l ++ (take (length l - u) (drop u l) ++ drop (length l - u) (drop u l)) ≡ l
    part_same = part_back (take (length l - u) (drop u l)) ∙ ap (λ p. take u l ++ p) part_lent ∙ take-append-drop u l
