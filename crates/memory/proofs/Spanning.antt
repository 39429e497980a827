-- Refusals 12 and 13: the case laws of `spans_refusal`, and what its answer says.
use Rattle.std.proofs.Common.{◌≡◌, ℕ, ◌^◌, ◌<◌, ◌≤◌, min, max, Bool, true, false, ◌⊎◌, ◌↔◌, [], ◌∷◌, sym, refl, inl, inr, ⊎_elim, arith, le-ltb, lt-ltb}
use Rattle.refusals.specs.Tried.{tried, NoneHolds}
use Rattle.logic.proofs.Promises.{cases}
use Rattle.refusals.proofs.Promises.{none_holds, tried_most}
use Rattle.memory.specs.Spans.{Span, Target, span_end, InSpan, ends_past, share_address, span_tests, spans_refusal, FineSpans}
use Rattle.memory.proofs.Testing.{past_true, past_false, past_yes, past_not, share_true, share_false}

-- ---- sharing, of every address
module _ (s r : Span) where
  pub share_some : (share_address s r ≡ true) ↔ ((x : ℕ) × InSpan s x × InSpan r x)
  unfolding share_address
  share_some = (
    λ h. let l = share_true s r h in (max s.first r.first, (omega arith, omega arith), (omega arith, omega arith)),
    λ w. lt-ltb (max s.first r.first) (min (span_end s) (span_end r)) (omega (arith, w.1, w.2)),
  )

  pub share_none : (share_address s r ≡ false) ↔ ((x : ℕ) → InSpan s x → InSpan r x → ⊥)
  unfolding share_address
  share_none = (
    λ h x i j. omega (arith, share_false s r h),
    λ h. le-ltb (max s.first r.first) (min (span_end s) (span_end r))
        (cases (max s.first r.first) (min (span_end s) (span_end r)) (λ l. absurd (h (max s.first r.first) (omega arith, omega arith) (omega arith, omega arith))) (λ l. l)),
  )

-- ---- the tests in their order
twelve : (s t u : Bool) → tried ((s, 12) ∷ (t, 12) ∷ (u, 13) ∷ []) ≡ 12 → (s ≡ true) ⊎ (t ≡ true)
twelve true t u h = inl refl
twelve false true u h = inr refl
twelve false false true h = absurd (omega arith)
twelve false false false h = absurd (omega arith)

thirteen : (s t u : Bool) → tried ((s, 12) ∷ (t, 12) ∷ (u, 13) ∷ []) ≡ 13 → (s ≡ false) × (t ≡ false) × (u ≡ true)
thirteen true t u h = absurd (omega arith)
thirteen false true u h = absurd (omega arith)
thirteen false false true h = (refl, refl, refl)
thirteen false false false h = absurd (omega arith)

module _ (t : Target) where
  -- ---- the case laws
  pub spans_image_past : ends_past t.image ≡ true → 12 ≡ spans_refusal t
  unfolding spans_refusal
  spans_image_past h = rw h

  pub spans_work_past : ends_past t.image ≡ false → ends_past t.work ≡ true → 12 ≡ spans_refusal t
  unfolding spans_refusal
  spans_work_past h s = rw (h, s)

  pub spans_share : ends_past t.image ≡ false → ends_past t.work ≡ false → share_address t.image t.work ≡ true → 13 ≡ spans_refusal t
  unfolding spans_refusal
  spans_share h s m = rw (h, s, m)

  pub spans_none : ends_past t.image ≡ false → ends_past t.work ≡ false → share_address t.image t.work ≡ false → 0 ≡ spans_refusal t
  unfolding spans_refusal
  spans_none h s m = rw (h, s, m)

  -- ---- what the answer says
  pub spans_pass : spans_refusal t ≡ 0 → NoneHolds (span_tests t)
  unfolding spans_refusal
  spans_pass = none_holds (span_tests t) tt

  pub spans_most : spans_refusal t ≤ 13
  unfolding spans_refusal
  spans_most = tried_most 13 (span_tests t) tt

  pub spans_0 : (spans_refusal t ≡ 0) ↔ FineSpans t
  spans_0 = (
    λ h. let p = spans_pass h in record {
      image_fits = past_false t.image p.0;
      work_fits = past_false t.work p.1.0;
      apart = (share_none t.image t.work).0 p.1.1.0;
    },
    λ s. sym (spans_none (past_not t.image s.image_fits) (past_not t.work s.work_fits) ((share_none t.image t.work).1 s.apart)),
  )

  pub spans_12 : (spans_refusal t ≡ 12) ↔ ((2 ^ 64 < span_end t.image) ⊎ (2 ^ 64 < span_end t.work))
  unfolding spans_refusal
  spans_12 = (
    λ h. ⊎_elim (λ s. inl (past_true t.image s)) (λ s. inr (past_true t.work s)) (twelve (ends_past t.image) (ends_past t.work) (share_address t.image t.work) h),
    ⊎_elim (λ s. sym (spans_image_past (past_yes t.image s)))
        (λ s. cases (2 ^ 64) (span_end t.image) (λ m. sym (spans_image_past (past_yes t.image m))) (λ m. sym (spans_work_past (past_not t.image m) (past_yes t.work s)))),
  )

  pub spans_13 : (spans_refusal t ≡ 13) ↔ ((span_end t.image ≤ 2 ^ 64) × (span_end t.work ≤ 2 ^ 64) × ((x : ℕ) × InSpan t.image x × InSpan t.work x))
  unfolding spans_refusal
  spans_13 = (
    λ h. let p = thirteen (ends_past t.image) (ends_past t.work) (share_address t.image t.work) h in
        (past_false t.image p.0, past_false t.work p.1, (share_some t.image t.work).0 p.2),
    λ w. sym (spans_share (past_not t.image w.0) (past_not t.work w.1) ((share_some t.image t.work).1 w.2)),
  )
