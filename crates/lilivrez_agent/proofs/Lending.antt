-- Where a fetch finds its bytes, and that they are the bytes lent.
use mathlib.Core.Bool.{Bool, true, false, cond, ◌&&◌}
use mathlib.Core.List.{[], ◌∷◌}
use mathlib.Core.Logic.{◌≢◌}
use mathlib.Core.Path.{◌≡◌, refl, ap, sym, ◌∙◌}
use Prim.Native.Nat.{ℕ, ◌+◌, ◌-◌, ◌≤◌, ◌<◌}
use native.Mathlib.Omega.{arith}
use lib.ListN.{length, take, drop}
use lib.Dec.{ltb}
use borrow.Author.Tests.{eq-eqb, ne_eqb, lt-ltb, le-ltb, lt-leb}
use Rattle.memory.specs.Spans.{Target, spans_refusal}
use Rattle.memory.specs.Joining.Holding.{cleared, held_at}
use Rattle.memory.specs.Fetch.{holds_range, readable, whichever, bytes_at, fetch_refusal, fetched, rest_of}
use Rattle.std.specs.Prelude.{Some}
use Rattle.memory.specs.declared.Held.TheVariants.{InImage, InWork}
use Rattle.memory.proofs.Promises.{holds_means, means_holds, fetch_first, fetch_0, readable_means, rest_refusal, held_image, held_work}
use Rattle.lilivrez_agent.specs.Lent.{span_of, lent_at, fetch_values}

none_of : (t : Bool) (x : ℕ × ℕ) → cond (t && false) x (0, 0) ≡ (0, 0)
none_of true x = refl
none_of false x = refl

by_test : (t : Bool) {X : Type 0} → (t ≡ true → X) → (t ≡ false → X) → X
by_test true x y = x refl
by_test false x y = y refl

not_both : {t : Bool} {X : Type 0} → t ≡ false → t ≡ true → X
not_both p q = absurd (let z : ◌≡◌ {A = ℕ} 0 1 = cc in omega arith)

module _ (t : Target) (a k : ℕ) where
  pub lent_refused : fetch_refusal t a k ≢ 0 → lent_at t a k ≡ (0, 0)
  unfolding lent_at
  lent_refused n = rw (ne_eqb (fetch_refusal t a k) 0 n) (none_of (ltb 0 k) _)

  pub lent_empty : k ≡ 0 → lent_at t a k ≡ (0, 0)
  unfolding lent_at
  lent_empty e = rw (le-ltb 0 k (omega arith))

  module _ (z : fetch_refusal t a k ≡ 0) (s : 1 ≤ k) where
    pub lent_image : holds_range t.image a k ≡ true → lent_at t a k ≡ (1, a - t.image.first)
    unfolding lent_at
    lent_image h = rw (lt-ltb 0 k s, eq-eqb (fetch_refusal t a k) 0 z, h)

    pub lent_work : holds_range t.image a k ≡ false → lent_at t a k ≡ (2, a - t.work.first)
    unfolding lent_at
    lent_work h = rw (lt-ltb 0 k s, eq-eqb (fetch_refusal t a k) 0 z, h)

    -- where the image does not hold the range, the working memory does
    other_holds : holds_range t.image a k ≡ false → holds_range t.work a k ≡ true
    unfolding readable
    other_holds h = rw h at ((readable_means t a k s).1 (((fetch_0 t a k).0 z).1 s))

    fetched_by : fetched t a k ≡ whichever t a k (bytes_at k a) []
    unfolding fetched
    fetched_by = rw (eq-eqb (fetch_refusal t a k) 0 z)

    -- what is so of the two cases is so
    by_span : {X : Type 0} → (holds_range t.image a k ≡ true → X) → (holds_range t.image a k ≡ false → X) → X
    by_span = by_test (holds_range t.image a k)

    pub lent_bytes : fetched t a k ≡ take k (drop (lent_at t a k).1 (span_of t (lent_at t a k).0))
    lent_bytes =
        by_span (λ h. rw (lent_image h) (fetched_by ∙ rw h)) (λ h. rw (lent_work h) (fetched_by ∙ rw (h, other_holds h)))

    pub lent_within : (lent_at t a k).1 + k ≤ length (span_of t (lent_at t a k).0)
    lent_within =
        by_span (λ h. rw (lent_image h) (omega (arith, holds_means t.image a k h)))
        (λ h. rw (lent_work h) (omega (arith, holds_means t.work a k (other_holds h))))

  -- ---- the ways out of the code: 12 or 13, then by the span that holds the address
  pub spans_refused : {r : ℕ} → r ≡ spans_refusal t → r ≢ 0 → (r ≡ fetch_refusal t a k) × (cleared ≡ fetch_values (lent_at t a k))
  spans_refused {r} e h =
      let p : r ≡ fetch_refusal t a k = e ∙ sym (fetch_first t a k (λ z. h (e ∙ z))) in (p, ap fetch_values (sym (lent_refused (λ z. h (p ∙ z)))))

  module _ (fine : spans_refusal t ≡ 0) where
    pub nothing_lent : k ≡ 0 → (0 ≡ fetch_refusal t a k) × (cleared ≡ fetch_values (lent_at t a k))
    nothing_lent e = (sym ((fetch_0 t a k).1 (fine, λ s. absurd (omega arith))), ap fetch_values (sym (lent_empty e)))

    module _ (s : 1 ≤ k) where
      fetched_where : readable t a k ≡ true → fetch_refusal t a k ≡ 0
      fetched_where r = (fetch_0 t a k).1 (fine, λ _. (readable_means t a k s).0 r)

      pub image_lent : {i : ℕ} → Some (InImage i) ≡ held_at t a → k ≤ length t.image.bytes - i
          → (0 ≡ fetch_refusal t a k) × (1 ∷ i ∷ [] ≡ fetch_values (lent_at t a k))
      unfolding readable
      image_lent p h =
          let o = held_image t a p in
          let m : holds_range t.image a k ≡ true = let w = holds_means t.image a 1 o.0 in means_holds t.image a k w.0 (omega (arith, w.1, o.1)) in
          let z = fetched_where (rw m) in
          (sym z, rw (lent_image z s m, o.1))

      pub work_lent : {i : ℕ} → Some (InWork i) ≡ held_at t a → k ≤ length t.work.bytes - i
          → (0 ≡ fetch_refusal t a k) × (2 ∷ i ∷ [] ≡ fetch_values (lent_at t a k))
      unfolding readable
      work_lent p h =
          let o = held_work t a p in
          let n : holds_range t.image a k ≡ false =
          by_test (holds_range t.image a k) (λ m. let w = holds_means t.image a k m in not_both o.0 (means_holds t.image a 1 w.0 (omega (arith, w.1)))) (λ m. m) in
          let m : holds_range t.work a k ≡ true = let w = holds_means t.work a 1 o.1 in means_holds t.work a k w.0 (omega (arith, w.1, o.2)) in
          let z = fetched_where (rw (n, m)) in
          (sym z, rw (lent_work z s n, o.2))

    -- the bytes from the address on are too few
    pub none_lent : length (rest_of t a) < k → (19 ≡ fetch_refusal t a k) × (cleared ≡ fetch_values (lent_at t a k))
    none_lent h =
        let z : fetch_refusal t a k ≡ 19 = rest_refusal t fine a k ∙ rw (lt-leb k (length (rest_of t a)) h) in
        (sym z, ap fetch_values (sym (lent_refused (λ e. omega (arith, e, z)))))
