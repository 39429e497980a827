-- Laws of text that grows in a buffer, for the proofs of the functions of `text`. Assumes nothing.
use Prim.Native.Nat.{ℕ, ◌≤◌, ◌<◌, ◌+◌, ◌-◌, min}
use native.Mathlib.Omega.{arith}
use native.Mathlib.Numerals.{add-one}
use mathlib.Core.Path.{◌≡◌, refl, sym, ap, subst, ◌∙◌}
use mathlib.Core.List.{List, [], ◌∷◌, ◌++◌}
use lib.ListN.{length, take, drop, set, get_or, length-set, length-append, take-append-drop, drop_of_length-le}
use lib.Seq.{length-take-le, take_all, take-suc, take-append-le}
use borrow.Rule.Slice.PartMut.{put_mid}
use Rattle.io.specs.Counts.{IsPrefixLen}
use Rattle.encoding.specs.Written.{written_at}
use Rattle.logic.proofs.Promises.{cases}
use Rattle.encoding.proofs.Promises.{written_length, written_nothing, written_more, written_store, written_upto, written_behind, written_past, part_copied}
use Rattle.text_buffer.specs.Text.{Text, Appends}

pub counts : (n : ℕ) (xs : List ℕ) → n ≤ length xs → IsPrefixLen n xs
counts n xs h = (h, sym (length-take-le n xs h))

-- ---- appending s and then t is appending s ++ t
pub appends_length : {b b' : List ℕ} {n n' : ℕ} {s : List ℕ} → Appends b n s b' n' → length b' ≡ length b
appends_length {b} {n = n} {s = s} p = ap length p.bytes ∙ written_length b n s

-- the text ends in the buffer
pub appends_inside : {b b' : List ℕ} {n n' : ℕ} {s : List ℕ} → Appends b n s b' n' → n' ≤ length b'
appends_inside p = omega (arith, p.ends, appends_length p)

-- t written where the text ends, which may be the buffer's end, is t written behind s
written_then : (b : List ℕ) (n : ℕ) (s t : List ℕ) → written_at (written_at b n s) (min (length b) (n + length s)) t ≡ written_at b n (s ++ t)
written_then b n s t =
    let c = written_at b n s in
    let k = written_length b n s in
    cases (n + length s) (length b)
    (λ h. let e : min (length b) (n + length s) ≡ n + length s = omega (arith, h) in ap (λ (i : ℕ). written_at c i t) e ∙ written_more b n s t)
    (λ h. written_past c (min (length b) (n + length s)) t (omega (arith, h, k)) ∙ sym (written_past c (n + length s) t (omega (arith, h, k))) ∙ written_more b n s t)

pub appends_then : {b b' b'' : List ℕ} {n n' n'' : ℕ} (s t : List ℕ) → Appends b n s b' n' → Appends b' n' t b'' n'' → Appends b n (s ++ t) b'' n''
appends_then {b} {n = n} {n'} s t p q = record {
  bytes = q.bytes ∙ ap (λ (m : List ℕ). written_at m n' t) p.bytes ∙ ap (λ (i : ℕ). written_at (written_at b n s) i t) p.ends ∙ written_then b n s t;
  ends = omega (arith, p.ends, q.ends, appends_length p, length-append s t);
}

pub appends_same : {b b' : List ℕ} {n n' : ℕ} (s t : List ℕ) → s ≡ t → Appends b n s b' n' → Appends b n t b' n'
appends_same {b} {b'} {n} {n'} s t e p = subst (λ (m : List ℕ). Appends b n m b' n') e p

-- where the text ends at the buffer's end, or is said to end behind it, nothing is written
pub appends_beyond : (b : List ℕ) (n : ℕ) (s : List ℕ) → length b ≤ n → Appends b n s b (length b)
appends_beyond b n s h = record { bytes = sym (written_past b n s h); ends = omega (arith, h) }

pub appends_nothing : (b : List ℕ) (n : ℕ) → n ≤ length b → Appends b n [] b n
appends_nothing b n h = record { bytes = sym (written_nothing b n); ends = omega (arith, h) }

appends_store : (b : List ℕ) (n x : ℕ) → n < length b → Appends b n (x ∷ []) (set b n x) (n + 1)
appends_store b n x h = record { bytes = written_store b n x; ends = omega (arith, h) }

-- ---- what stands in the buffer
-- no text yet
text_start : (b : List ℕ) → Text b 0 []
text_start b = record { within = omega arith; most = omega arith; all = λ _. refl; same = refl }

-- the first n' bytes of the text l, whose first n bytes the buffer has, and of s behind it
text_then : {b : List ℕ} {n : ℕ} {l : List ℕ} → Text b n l → (s : List ℕ) (n' : ℕ) → n' ≡ min (length b) (n + length s) → take n' (take n b ++ s) ≡ take n' (l ++ s)
text_then {b} {n} {l} t s n' e =
    ap (λ (m : List ℕ). take n' (m ++ s)) t.same
    ∙ cases n (length b)
    (λ h. ap (λ (m : List ℕ). take n' (m ++ s)) (take_all n l (omega (arith, t.all h))))
    (λ h.
    let k : n' ≡ n = omega (arith, e, h, t.within) in
    let g = length-take-le n l t.most in
    rw k (take-append-le n (take n l) s (omega (arith, g)) ∙ take_all n (take n l) (omega (arith, g)) ∙ sym (take-append-le n l s t.most)))

module _ {b b' : List ℕ} {n n' : ℕ} {s : List ℕ} (p : Appends b n s b' n') where
  pub appends_text : (l : List ℕ) → Text b n l → Text b' n' (l ++ s)
  appends_text l t =
      let k = length-append l s in
      record {
        within = appends_inside p;
        most = omega (arith, p.ends, t.most, k);
        all = λ h. (let g : n < length b = omega (arith, p.ends, h, appends_length p) in omega (arith, p.ends, h, appends_length p, t.all g, k));
        same = ap (take n') p.bytes ∙ written_upto b n s n' (omega (arith, p.ends)) (omega (arith, p.ends)) ∙ text_then t s n' p.ends;
      }

  -- every byte behind the text is as it was
  pub appends_past : drop n' b' ≡ drop n' b
  appends_past =
      cases n' (length b)
      (λ h. ap (drop n') p.bytes ∙ written_behind b n s n' (omega (arith, p.ends, h)))
      (λ h. drop_of_length-le b' {i = n'} (omega (arith, h, appends_length p)) ∙ sym (drop_of_length-le b h))

-- the first text of a buffer
pub text_of : {b b' : List ℕ} {n : ℕ} {s : List ℕ} → Appends b 0 s b' n → Text b' n s
text_of {b} p = appends_text p [] (text_start b)

-- ---- i bytes of s are appended to the text that ended at `at` in the buffer b₀
pub record Appending (b₀ : List ℕ) (at : ℕ) (s b : List ℕ) (n i : ℕ) : Type 0 where
  pub turns : i ≤ length s
  pub inside : n ≤ length b
  pub size : length b ≡ length b₀
  pub text : Appends b₀ at (take i s) b n

pub appending_start : (b : List ℕ) (at : ℕ) (s : List ℕ) → at ≤ length b → Appending b at s b at 0
appending_start b at s h = record {
  turns = omega arith;
  inside = h;
  size = refl;
  text = appends_nothing b at h;
}

module _ {b₀ : List ℕ} {at : ℕ} {s b : List ℕ} {n i : ℕ} (p : Appending b₀ at s b n i) where
  pub appending_byte : n < length b → i < length s → Appending b₀ at s (set b n (get_or s i 0)) (n + 1) (i + 1)
  appending_byte h k =
      let x = get_or s i 0 in
      let e : take (i + 1) s ≡ take i s ++ (x ∷ []) = ap (λ (j : ℕ). take j s) (add-one i) ∙ take-suc s i 0 k in
      record {
        turns = omega arith;
        inside = omega (arith, length-set b n x);
        size = length-set b n x ∙ p.size;
        text = appends_same (take i s ++ (x ∷ [])) (take (i + 1) s) (sym e) (appends_then (take i s) (x ∷ []) p.text (appends_store b n x h));
      }

  pub appending_full : length b ≤ n → Appends b₀ at s b n
  appending_full h =
      let k : length b ≡ n = omega (arith, h, p.inside) in
      appends_same (take i s ++ drop i s) s (take-append-drop i s)
      (appends_then (take i s) (drop i s) p.text (subst (Appends b n (drop i s) b) k (appends_beyond b n (drop i s) h)))

  pub appending_end : length s ≤ i → Appends b₀ at s b n
  appending_end h = appends_same (take i s) s (take_all i s h) p.text

-- ---- as many bytes as there is room for are copied, to a part that is lent as `&mut b[n..n + c]`
written_cut : (b : List ℕ) (n c : ℕ) (s : List ℕ) → c ≡ min (length s) (length b - n) → written_at b n (take c s) ≡ written_at b n s
written_cut b n c s e =
    cases c (length s)
    (λ g.
    let k : length (take c s) ≡ c = length-take-le c s (omega (arith, e)) in
    sym (written_past (written_at b n (take c s)) (n + length (take c s)) (drop c s) (omega (arith, e, g, k, written_length b n (take c s))))
    ∙ written_more b n (take c s) (drop c s)
    ∙ ap (written_at b n) (take-append-drop c s))
    (λ g. ap (written_at b n) (take_all c s (omega (arith, g))))

pub appends_copied : (b : List ℕ) (n : ℕ) (s : List ℕ) {c : ℕ} {m : List ℕ} → n ≤ length b → c ≡ min (length s) (length b - n) → m ≡ take c s
    → Appends b n s (put_mid n (n + c - n) b m) (n + c)
appends_copied b n s {c} {m} h e q =
    let l : length (take c s) ≡ c = length-take-le c s (omega (arith, e)) in
    record {
      bytes = ap (put_mid n (n + c - n) b) q ∙ part_copied b n (n + c - n) (take c s) (omega (arith, e, l, h)) (omega (arith, l)) ∙ written_cut b n c s e;
      ends = omega (arith, h, e);
    }
