-- Refusal 19 and the fetch: the case laws of `holder`, `rest`, `fetch_refusal` and `fetch`, and what their answers say.
use Rattle.std.proofs.Common.{◌≡◌, ℕ, ◌+◌, ◌-◌, ◌%◌, ◌^◌, ◌<◌, ◌≤◌, Bool, true, false, cond, not, ◌&&◌, ltb, leb, ◌≢◌, ◌⊎◌, ◌↔◌, List, [], ◌∷◌, Some, None, length, get_or, take, drop, sym, refl, ap, ◌∙◌, inl, inr, ⊎_elim, arith, length-drop, length-take, get_or-drop, take_all, get_or-take, ext_get_or, le-ltb, lt-ltb, eq-eqb, ne_eqb, le-leb, leb-true}
use borrow.Author.Tests.{lt-leb}
use Rattle.logic.proofs.Promises.{cases, no_true}
use Rattle.memory.specs.Spans.{Span, Target, span_end, InSpan, span_tests, spans_refusal}
use Rattle.memory.specs.Fetch.{holds_range, readable, fetch_refusal, whichever, bytes_from, bytes_at, fetched, InTarget, target_byte, rest_of, Within, Readable, PartOf}
use Rattle.memory.specs.Joining.Holding.{held_at}
use Rattle.memory.specs.declared.Held.TheVariants.{InImage, InWork}
use Rattle.refusals.proofs.Promises.{tried_first, tried_then}
use Rattle.memory.proofs.Choosing.{cond_elim, zero_cases}
use Rattle.memory.proofs.Testing.{holds_yes, holds_not, holds_true, holds_false, wrapped_in, wrapped_out}
use Rattle.memory.proofs.Spanning.{spans_pass, spans_most, spans_0}

and_false : (t : Bool) → ◌≡◌ {A = ℕ} (cond (t && false) 19 0) 0
and_false true = refl
and_false false = refl

turned : (t : Bool) → ◌≡◌ {A = ℕ} (cond (not t) 19 0) (cond t 0 19)
turned true = refl
turned false = refl

-- ---- a span holds a range, address by address
within_holds : (s : Span) (a k : ℕ) → holds_range s a k ≡ true → Within s a k
within_holds s a k h i l = (omega (arith, holds_true s a k h), omega (arith, holds_true s a k h))

-- a span that does not hold the range misses one of its addresses
not_within : (s : Span) (a k : ℕ) → 1 ≤ k → holds_range s a k ≡ false → Within s a k → ⊥
not_within s a k l h w = omega (arith, holds_false s a k h (omega (arith, w 0 (omega arith))), w (k - 1) (omega arith))

-- the span holds the address x
holds_address : (s : Span) (x : ℕ) → InSpan s x → holds_range s x 1 ≡ true
holds_address s x i = holds_yes s x 1 i.0 (omega arith)

misses_address : (s : Span) (x : ℕ) → (InSpan s x → ⊥) → holds_range s x 1 ≡ false
misses_address s x h = holds_not s x 1 (λ l. cases x (span_end s) (λ m. absurd (h (l, m))) (λ m. omega arith))

-- k bytes at i of a list that has them
length_part : (k i : ℕ) (l : List ℕ) → i + k ≤ length l → length (take k (drop i l)) ≡ k
length_part k i l h = simp (length-take, length-drop) (omega arith)

rest_whole : (i : ℕ) (l : List ℕ) → take (length l - i) (drop i l) ≡ drop i l
rest_whole i l = take_all (length l - i) (drop i l) (omega (arith, length-drop i l))

-- a byte of a part of the span
part_byte : (s : Span) (a k : ℕ) (part : List ℕ) → PartOf s a k part → (i : ℕ) → i < k → get_or part i 0 ≡ get_or s.bytes (a + i - s.first) 0
part_byte s a k part w i h =
    let e : a - s.first + i ≡ a + i - s.first = omega (arith, w.within 0 (omega arith)) in
    rw (w.same, get_or-take k (bytes_from a s) i 0 h, get_or-drop, e)

-- ---- which of the two tests held
is_image : (s t : Bool) (x y : ℕ) {i : ℕ} → Some (InImage i) ≡ cond s (Some (InImage x)) (cond t (Some (InWork y)) None) → (s ≡ true) × (i ≡ x)
is_image true t x y p = (refl, cc)
is_image false true x y p = absurd (let z : ◌≡◌ {A = ℕ} 0 1 = cc in omega arith)
is_image false false x y p = absurd (let z : ◌≡◌ {A = ℕ} 0 1 = cc in omega arith)

is_work : (s t : Bool) (x y : ℕ) {i : ℕ} → Some (InWork i) ≡ cond s (Some (InImage x)) (cond t (Some (InWork y)) None) → (s ≡ false) × (t ≡ true) × (i ≡ y)
is_work true t x y p = absurd (let z : ◌≡◌ {A = ℕ} 0 1 = cc in omega arith)
is_work false true x y p = (refl, refl, cc)
is_work false false x y p = absurd (let z : ◌≡◌ {A = ℕ} 0 1 = cc in omega arith)

is_nowhere : (s t : Bool) (x y : ℕ) → None ≡ cond s (Some (InImage x)) (cond t (Some (InWork y)) None) → (s ≡ false) × (t ≡ false)
is_nowhere true t x y p = absurd (let z : ◌≡◌ {A = ℕ} 0 1 = cc in omega arith)
is_nowhere false true x y p = absurd (let z : ◌≡◌ {A = ℕ} 0 1 = cc in omega arith)
is_nowhere false false x y p = (refl, refl)

module _ (t : Target) where
  -- whichever span holds the range
  which : {A : Type 0} (P : A → Type 0) (a k : ℕ) (of : Span → A) (none : A) →
      (holds_range t.image a k ≡ true → P (of t.image)) →
      (holds_range t.image a k ≡ false → holds_range t.work a k ≡ true → P (of t.work)) →
      (holds_range t.image a k ≡ false → holds_range t.work a k ≡ false → P none) → P (whichever t a k of none)
  which P a k of none x y z =
      cond_elim P (holds_range t.image a k) (of t.image) (cond (holds_range t.work a k) (of t.work) none) x
      (λ h. cond_elim P (holds_range t.work a k) (of t.work) none (y h) (z h))

  -- ---- the refusal
  pub fetch_first : spans_refusal t ≢ 0 → (a k : ℕ) → spans_refusal t ≡ fetch_refusal t a k
  unfolding spans_refusal fetch_refusal
  fetch_first h a k = sym (tried_first (span_tests t) ((ltb 0 k && not (readable t a k), 19) ∷ []) h)

  -- by the number n, not 0, of 12 or 13
  module _ {n : ℕ} (some : 1 ≤ n) (e : n ≡ spans_refusal t) (a k : ℕ) where
    pub spans_refused : n ≡ fetch_refusal t a k
    spans_refused = e ∙ fetch_first (λ z. omega arith) a k

  module _ (fine : spans_refusal t ≡ 0) (a k : ℕ) where
    fetch_then : fetch_refusal t a k ≡ cond (ltb 0 k && not (readable t a k)) 19 0
    unfolding fetch_refusal
    fetch_then = tried_then (span_tests t) ((ltb 0 k && not (readable t a k), 19) ∷ []) (spans_pass t fine)

    fetch_no_bytes : k ≡ 0 → 0 ≡ fetch_refusal t a k
    fetch_no_bytes h = sym (fetch_then ∙ rw (le-ltb 0 k (omega arith)))

    fetch_in_image : holds_range t.image a k ≡ true → 0 ≡ fetch_refusal t a k
    unfolding readable
    fetch_in_image h = sym (fetch_then ∙ rw h (and_false (ltb 0 k)))

    fetch_in_work : holds_range t.image a k ≡ false → holds_range t.work a k ≡ true → 0 ≡ fetch_refusal t a k
    unfolding readable
    fetch_in_work h s = sym (fetch_then ∙ rw (h, s) (and_false (ltb 0 k)))

    fetch_unreadable : k ≢ 0 → holds_range t.image a k ≡ false → holds_range t.work a k ≡ false → 19 ≡ fetch_refusal t a k
    unfolding readable
    fetch_unreadable z h s = sym (fetch_then ∙ rw (lt-ltb 0 k (omega arith), h, s))

    -- a fetch that is not refused, of a range that no span holds, is of no bytes
    unread_none : fetch_refusal t a k ≡ 0 → holds_range t.image a k ≡ false → holds_range t.work a k ≡ false → k ≡ 0
    unread_none z h s = zero_cases k (λ e. e) (λ n. absurd (omega (arith, z, fetch_unreadable n h s)))

  module _ (a k : ℕ) where
    pub fetch_fine : fetch_refusal t a k ≡ 0 → spans_refusal t ≡ 0
    fetch_fine z = zero_cases (spans_refusal t) (λ e. e) (λ n. absurd (n (fetch_first n a k ∙ z)))

    -- the spans by which span holds the range
    one_of : {X : Type 0} →
        (holds_range t.image a k ≡ true → X) →
        (holds_range t.image a k ≡ false → holds_range t.work a k ≡ true → X) →
        (holds_range t.image a k ≡ false → holds_range t.work a k ≡ false → X) → X
    one_of {X} = which (λ (m : ℕ). X) a k (λ _. 0) 0

    pub fetch_0 : (fetch_refusal t a k ≡ 0) ↔ ((spans_refusal t ≡ 0) × (1 ≤ k → Readable t a k))
    fetch_0 = (
      λ z. (
        fetch_fine z,
        λ s. one_of (λ h. inl (within_holds t.image a k h)) (λ _ h. inr (within_holds t.work a k h)) (λ h m. absurd (omega (arith, unread_none (fetch_fine z) a k z h m))),
      ),
      λ w. zero_cases k (λ e. sym (fetch_no_bytes w.0 a k e))
          (λ n. one_of (λ h. sym (fetch_in_image w.0 a k h)) (λ h m. sym (fetch_in_work w.0 a k h m))
          (λ h m. absurd (⊎_elim (not_within t.image a k (omega arith) h) (not_within t.work a k (omega arith) m) (w.1 (omega arith))))),
    )

    pub fetch_19 : (fetch_refusal t a k ≡ 19) ↔ ((spans_refusal t ≡ 0) × (1 ≤ k) × (Readable t a k → ⊥))
    fetch_19 = (
      λ e. zero_cases (spans_refusal t)
          (λ p. zero_cases k (λ n. absurd (omega (arith, e, fetch_no_bytes p a k n)))
          (λ n. (p, omega arith, λ r. absurd (omega (arith, e, fetch_0.1 (p, λ _. r))))))
          (λ n. absurd (omega (arith, e, fetch_first n a k, spans_most t))),
      λ w. one_of (λ h. absurd (w.2 (inl (within_holds t.image a k h)))) (λ _ h. absurd (w.2 (inr (within_holds t.work a k h))))
          (λ h m. sym (fetch_unreadable w.0 a k (λ n. omega (arith, w.1)) h m)),
    )

    pub readable_means : 1 ≤ k → (readable t a k ≡ true) ↔ Readable t a k
    unfolding readable
    readable_means s =
        one_of (λ h. (λ _. inl (within_holds t.image a k h), λ _. rw h)) (λ h m. (λ _. inr (within_holds t.work a k m), λ _. rw (h, m)))
        (λ h m. (λ r. no_true (rw (h, m) at r), ⊎_elim (λ w. absurd (not_within t.image a k s h w)) (λ w. absurd (not_within t.work a k s m w))))

    -- ---- the part lent
    lent : fetch_refusal t a k ≡ 0 → fetched t a k ≡ whichever t a k (bytes_at k a) []
    unfolding fetched
    lent z = rw (eq-eqb (fetch_refusal t a k) 0 z)

    pub fetched_refused : fetch_refusal t a k ≢ 0 → [] ≡ fetched t a k
    unfolding fetched
    fetched_refused n = rw (ne_eqb (fetch_refusal t a k) 0 n)

    -- n is the number of the refusal
    pub refused_none : {n : ℕ} → 1 ≤ n → n ≡ fetch_refusal t a k → fetched t a k ≡ []
    refused_none s e = sym (fetched_refused (λ z. omega arith))

    fetched_image : fetch_refusal t a k ≡ 0 → holds_range t.image a k ≡ true → bytes_at k a t.image ≡ fetched t a k
    fetched_image z h = sym (lent z ∙ rw h)

    fetched_work : fetch_refusal t a k ≡ 0 → holds_range t.image a k ≡ false → holds_range t.work a k ≡ true → bytes_at k a t.work ≡ fetched t a k
    fetched_work z h s = sym (lent z ∙ rw (h, s))

    fetched_none : fetch_refusal t a k ≡ 0 → holds_range t.image a k ≡ false → holds_range t.work a k ≡ false → [] ≡ fetched t a k
    fetched_none z h s = sym (lent z ∙ rw (h, s))

  -- ---- the target's bytes
  pub target_holds : (x : ℕ) → (readable t x 1 ≡ true) ↔ InTarget t x
  target_holds x =
      let r = readable_means x 1 (omega arith) in (
        λ p. ⊎_elim (λ w. inl (let y = w 0 (omega arith) in (omega (arith, y.0), omega (arith, y.1))))
            (λ w. inr (let y = w 0 (omega arith) in (omega (arith, y.0), omega (arith, y.1)))) (r.0 p),
        λ p. r.1 (⊎_elim (λ w. inl (λ i h. (omega (arith, w.0), omega (arith, w.1)))) (λ w. inr (λ i h. (omega (arith, w.0), omega (arith, w.1)))) p),
      )

  pub target_image : (x : ℕ) → InSpan t.image x → target_byte t x ≡ get_or t.image.bytes (x - t.image.first) 0
  unfolding target_byte
  target_image x i = rw (holds_address t.image x i)

  module _ (fine : spans_refusal t ≡ 0) where
    pub target_work : (x : ℕ) → InSpan t.work x → target_byte t x ≡ get_or t.work.bytes (x - t.work.first) 0
    unfolding target_byte
    target_work x i =
        rw (misses_address t.image x (λ j. ((spans_0 t).0 fine).apart x j i), holds_address t.work x i)

    pub target_part : (a k : ℕ) (part : List ℕ) → PartOf t.image a k part ⊎ PartOf t.work a k part
        → (i : ℕ) → i < k → InTarget t (a + i) × (get_or part i 0 ≡ target_byte t (a + i))
    target_part a k part p i h =
        ⊎_elim (λ w. let x = w.within i (omega arith) in (inl x, part_byte t.image a k part w i h ∙ sym (target_image (a + i) x)))
        (λ w. let x = w.within i (omega arith) in (inr x, part_byte t.work a k part w i h ∙ sym (target_work (a + i) x))) p

  module _ (a k : ℕ) (z : fetch_refusal t a k ≡ 0) where
    fine_spans : spans_refusal t ≡ 0
    fine_spans = fetch_fine a k z

    pub fetched_part : 1 ≤ k → PartOf t.image a k (fetched t a k) ⊎ PartOf t.work a k (fetched t a k)
    fetched_part s =
        one_of a k (λ h. inl (record { within = λ i s. within_holds t.image a k h i (omega arith); same = sym (fetched_image a k z h) }))
        (λ h m. inr (record { within = λ i s. within_holds t.work a k m i (omega arith); same = sym (fetched_work a k z h m) }))
        (λ h m. absurd (omega (arith, unread_none fine_spans a k z h m)))

    pub fetched_length : length (fetched t a k) ≡ k
    fetched_length =
        one_of a k (λ h. rw (← (fetched_image a k z h)) (length_part k (a - t.image.first) t.image.bytes (omega (arith, holds_true t.image a k h))))
        (λ h m. rw (← (fetched_work a k z h m)) (length_part k (a - t.work.first) t.work.bytes (omega (arith, holds_true t.work a k m))))
        (λ h m. rw (← (fetched_none a k z h m)) (sym (unread_none fine_spans a k z h m)))

    pub fetched_byte : (i : ℕ) → i < k → InTarget t (a + i) × (get_or (fetched t a k) i 0 ≡ target_byte t (a + i))
    fetched_byte i s = target_part fine_spans a k (fetched t a k) (fetched_part (omega arith)) i s

  -- ---- the bytes from an address on
  module _ (a : ℕ) where
    rest_image : holds_range t.image a 1 ≡ true → bytes_from a t.image ≡ rest_of t a
    unfolding rest_of
    rest_image h = sym (rw h)

    rest_work : holds_range t.image a 1 ≡ false → holds_range t.work a 1 ≡ true → bytes_from a t.work ≡ rest_of t a
    unfolding rest_of
    rest_work h s = sym (rw (h, s))

    rest_none : holds_range t.image a 1 ≡ false → holds_range t.work a 1 ≡ false → [] ≡ rest_of t a
    unfolding rest_of
    rest_none h s = sym (rw (h, s))

  -- ---- the span that holds an address, found by the difference w of the address and the first one of the image, or x
  -- of the working memory, modulo 2^64
  module _ (fine : spans_refusal t ≡ 0) {a w : ℕ} (e : (w + t.image.first) % 2 ^ 64 ≡ a) where
    pub found_in_image : w < length t.image.bytes → Some (InImage w) ≡ held_at t a
    unfolding held_at
    found_in_image h =
        let o = wrapped_in t.image a w ((spans_0 t).0 fine).image_fits e h in rw (o.1, ← o.0)

    pub found_nowhere : w < 2 ^ 64 → length t.image.bytes ≤ w → {x : ℕ} → (x + t.work.first) % 2 ^ 64 ≡ a → x < 2 ^ 64 → length t.work.bytes ≤ x → None ≡ held_at t a
    unfolding held_at
    found_nowhere b h {x} d l s =
        rw (wrapped_out t.image a w ((spans_0 t).0 fine).image_fits e b h, wrapped_out t.work a x ((spans_0 t).0 fine).work_fits d l s)

  -- what the working memory holds, the image does not
  pub found_in_work : spans_refusal t ≡ 0 → {a x : ℕ} → (x + t.work.first) % 2 ^ 64 ≡ a → x < length t.work.bytes → Some (InWork x) ≡ held_at t a
  unfolding held_at
  found_in_work fine {a} {x} d s =
      let m = (spans_0 t).0 fine in
      let o = wrapped_in t.work a x m.work_fits d s in
      let y = holds_true t.work a 1 o.1 in
      rw (misses_address t.image a (λ j. m.apart a j (omega (arith, y), omega (arith, y))), o.1, ← o.0)

  -- what the answer says
  module _ (a : ℕ) {i : ℕ} where
    pub held_image : Some (InImage i) ≡ held_at t a → (holds_range t.image a 1 ≡ true) × (i ≡ a - t.image.first)
    unfolding held_at
    held_image = is_image (holds_range t.image a 1) (holds_range t.work a 1) (a - t.image.first) (a - t.work.first)

    pub held_work : Some (InWork i) ≡ held_at t a → (holds_range t.image a 1 ≡ false) × (holds_range t.work a 1 ≡ true) × (i ≡ a - t.work.first)
    unfolding held_at
    held_work = is_work (holds_range t.image a 1) (holds_range t.work a 1) (a - t.image.first) (a - t.work.first)

    -- and so the bytes from the address on
    pub image_index : Some (InImage i) ≡ held_at t a → i < length t.image.bytes
    image_index p = let o = held_image p in omega (arith, o.1, holds_true t.image a 1 o.0)

    pub work_index : Some (InWork i) ≡ held_at t a → i < length t.work.bytes
    work_index p = let o = held_work p in omega (arith, o.2, holds_true t.work a 1 o.1)

    pub rest_in_image : Some (InImage i) ≡ held_at t a → take (length t.image.bytes - i) (drop i t.image.bytes) ≡ rest_of t a
    rest_in_image p = let o = held_image p in rest_whole i t.image.bytes ∙ ap (λ (j : ℕ). drop j t.image.bytes) o.1 ∙ rest_image a o.0

    pub length_in_image : Some (InImage i) ≡ held_at t a → length (rest_of t a) ≡ length t.image.bytes - i
    length_in_image p = rw (← (rest_in_image p)) (simp (length-take, length-drop) (omega arith))

    pub rest_in_work : Some (InWork i) ≡ held_at t a → take (length t.work.bytes - i) (drop i t.work.bytes) ≡ rest_of t a
    rest_in_work p = let o = held_work p in rest_whole i t.work.bytes ∙ ap (λ (j : ℕ). drop j t.work.bytes) o.2 ∙ rest_work a o.0 o.1

    pub length_in_work : Some (InWork i) ≡ held_at t a → length (rest_of t a) ≡ length t.work.bytes - i
    length_in_work p = rw (← (rest_in_work p)) (simp (length-take, length-drop) (omega arith))

  module _ (a : ℕ) where
    pub held_nowhere : None ≡ held_at t a → (holds_range t.image a 1 ≡ false) × (holds_range t.work a 1 ≡ false)
    unfolding held_at
    held_nowhere = is_nowhere (holds_range t.image a 1) (holds_range t.work a 1) (a - t.image.first) (a - t.work.first)

    pub rest_nowhere : None ≡ held_at t a → [] ≡ rest_of t a
    rest_nowhere p = let o = held_nowhere p in rest_none a o.0 o.1

    pub length_nowhere : None ≡ held_at t a → length (rest_of t a) ≡ 0
    length_nowhere p = rw (← (rest_nowhere p))

  module _ (fine : spans_refusal t ≡ 0) (a : ℕ) where
    apart : (x : ℕ) → InSpan t.image x → InSpan t.work x → ⊥
    apart = ((spans_0 t).0 fine).apart

    -- a range is held by the span of its first byte, as far as that span goes
    rest_cases : (k : ℕ) {X : Type 0} → 1 ≤ k →
        (holds_range t.image a k ≡ true → k ≤ length (rest_of t a) → bytes_from a t.image ≡ rest_of t a → X) →
        (holds_range t.image a k ≡ false → holds_range t.work a k ≡ true → k ≤ length (rest_of t a) → bytes_from a t.work ≡ rest_of t a → X) →
        (holds_range t.image a k ≡ false → holds_range t.work a k ≡ false → length (rest_of t a) < k → X) → X
    rest_cases k s x y z =
        one_of a k
        (λ h. let w = holds_true t.image a k h in
        let r = rest_image a (holds_yes t.image a 1 w.0 (omega arith)) in
        x h (rw (← r, length-drop) (omega arith)) r)
        (λ h m. let w = holds_true t.work a k m in
        let r = rest_work a (misses_address t.image a (λ j. apart a j (omega arith, omega arith))) (holds_yes t.work a 1 w.0 (omega arith)) in
        y h m (rw (← r, length-drop) (omega arith)) r)
        (λ h m. z h m (one_of a 1
        (λ u. rw (← (rest_image a u), length-drop) (omega (arith, holds_true t.image a 1 u, holds_false t.image a k h (holds_true t.image a 1 u).0)))
        (λ u v. rw (← (rest_work a u v), length-drop) (omega (arith, holds_true t.work a 1 v, holds_false t.work a k m (holds_true t.work a 1 v).0)))
        (λ u v. rw (← (rest_none a u v)) s)))

    pub rest_test : (k : ℕ) → 1 ≤ k → readable t a k ≡ leb k (length (rest_of t a))
    unfolding readable
    rest_test k s =
        rest_cases k s (λ h m _. rw (h, le-leb k (length (rest_of t a)) m)) (λ h m u _. rw (h, m, le-leb k (length (rest_of t a)) u))
        (λ h m u. rw (h, m, lt-leb k (length (rest_of t a)) u))

    pub rest_readable : (k : ℕ) → 1 ≤ k → Readable t a k ↔ (k ≤ length (rest_of t a))
    rest_readable k s = (
      λ r. leb-true k (length (rest_of t a)) (sym (rest_test k s) ∙ (readable_means a k s).1 r),
      λ h. (readable_means a k s).0 (rest_test k s ∙ le-leb k (length (rest_of t a)) h),
    )

    pub rest_refusal : (k : ℕ) → fetch_refusal t a k ≡ cond (leb k (length (rest_of t a))) 0 19
    rest_refusal k =
        zero_cases k (λ e. rw (le-leb k (length (rest_of t a)) (omega arith)) (sym (fetch_no_bytes fine a k e)))
        (λ n. fetch_then fine a k ∙ rw (lt-ltb 0 k (omega arith), rest_test k (omega arith)) (turned (leb k (length (rest_of t a)))))

    pub rest_fetched : (k : ℕ) → k ≤ length (rest_of t a) → fetched t a k ≡ take k (rest_of t a)
    rest_fetched k s =
        let z : fetch_refusal t a k ≡ 0 = rest_refusal k ∙ rw (le-leb k (length (rest_of t a)) s) in
        zero_cases k (λ e. ext_get_or 0 (fetched t a k) (take k (rest_of t a)) (omega (arith, fetched_length a k z, length-take k (rest_of t a)))
        (λ i h. absurd (omega (arith, fetched_length a k z))))
        (λ n. rest_cases k (omega arith)
        (λ h _ r. sym (fetched_image a k z h) ∙ rw r)
        (λ h m _ r. sym (fetched_work a k z h m) ∙ rw r)
        (λ h m u. absurd (omega arith)))

    pub rest_byte : (i : ℕ) → i < length (rest_of t a)
        → InTarget t (a + i) × (get_or (rest_of t a) i 0 ≡ target_byte t (a + i))
    rest_byte i s =
        let z : fetch_refusal t a (i + 1) ≡ 0 = rest_refusal (i + 1) ∙ rw (le-leb (i + 1) (length (rest_of t a)) (omega arith)) in
        let y = fetched_byte a (i + 1) z i (omega arith) in
        (y.0, sym (get_or-take (i + 1) (rest_of t a) i 0 (omega arith)) ∙ rw (rest_fetched (i + 1) (omega arith)) at y.1)

    -- ---- the answers of `fetch_refusal` and `fetch`, of the bytes r that `rest` lends
    module _ {r : List ℕ} (lent : r ≡ rest_of t a) {k : ℕ} where
      pub refusal_short : length r < k → 19 ≡ fetch_refusal t a k
      refusal_short h = sym (rest_refusal k ∙ rw (← lent, lt-leb k (length r) h))

      pub refusal_none : k ≤ length r → 0 ≡ fetch_refusal t a k
      refusal_none h = sym (rest_refusal k ∙ rw (← lent, le-leb k (length r) h))

      pub short_none : length r < k → fetched t a k ≡ []
      short_none h = refused_none a k (omega arith) (refusal_short h)

      pub fetch_lends : k ≤ length r → take k r ≡ fetched t a k
      fetch_lends h = rw lent (sym (rest_fetched k (rw lent at h)))
