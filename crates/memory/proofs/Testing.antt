-- What each test of the code says of addresses, and the case laws of `ends_past` and `share_address`.
use Rattle.std.proofs.Common.{◌≡◌, ℕ, suc, ◌+◌, ◌-◌, ◌%◌, ◌^◌, ◌<◌, ◌≤◌, min, max, Bool, true, false, not, ◌&&◌, eqb, ltb, leb, length, sym, refl, ◌∙◌, arith, ltb-false, ltb-true, le-ltb, lt-ltb, eq-eqb, ne_eqb, le-leb, leb-false, leb-true}
use borrow.Author.Tests.{lt-leb}
use Rattle.logic.proofs.Promises.{cases, no_true}
use Rattle.memory.specs.Spans.{Span, span_end, ends_past, share_address}
use Rattle.memory.specs.Fetch.{holds_range}
use Rattle.memory.proofs.Choosing.{zero_cases}

-- ---- two tests agree where each follows from the other
leb_same : (a b c d : ℕ) → (a ≤ b → c ≤ d) → (b < a → d < c) → leb a b ≡ leb c d
leb_same a b c d f g = cases b a (λ h. lt-leb a b h ∙ sym (lt-leb c d (g h))) (λ h. le-leb a b h ∙ sym (le-leb c d (f h)))

ltb_same : (a b c d : ℕ) → (a < b → c < d) → (b ≤ a → d ≤ c) → ltb a b ≡ ltb c d
ltb_same a b c d f g = leb_same (suc a) b (suc c) d f (λ h. omega (arith, g (omega arith)))

-- ---- 12
module _ (s : Span) where
  pub past_yes : 2 ^ 64 < span_end s → ends_past s ≡ true
  unfolding ends_past
  past_yes = lt-ltb (2 ^ 64) (span_end s)

  pub past_not : span_end s ≤ 2 ^ 64 → ends_past s ≡ false
  unfolding ends_past
  past_not = le-ltb (2 ^ 64) (span_end s)

  -- by the sum modulo 2^64, where it is below f
  pub past_by : {e : ℕ} → e ≡ (span_end s) % 2 ^ 64 → s.first < 2 ^ 64 → length s.bytes < 2 ^ 64 → e < s.first → not (eqb e 0) ≡ ends_past s
  past_by {e} q h m y =
      zero_cases e (λ z. rw (eq-eqb e 0 z) (sym (past_not (omega arith)))) (λ z. rw (ne_eqb e 0 z) (sym (past_yes (omega arith))))

  pub past_true : ends_past s ≡ true → 2 ^ 64 < span_end s
  unfolding ends_past
  past_true = ltb-true (2 ^ 64) (span_end s)

  pub past_false : ends_past s ≡ false → span_end s ≤ 2 ^ 64
  unfolding ends_past
  past_false = ltb-false (2 ^ 64) (span_end s)

-- ---- 13
module _ (s r : Span) where
  -- a span whose first address lies in the other shares it, unless it is empty
  pub share_up : s.first ≤ r.first → r.first - s.first < length s.bytes → ltb 0 (length r.bytes) ≡ share_address s r
  unfolding share_address
  share_up h l = ltb_same 0 (length r.bytes) (max s.first r.first) (min (span_end s) (span_end r)) (λ x. omega arith) (λ x. omega arith)

  pub share_down : r.first < s.first → s.first - r.first < length r.bytes → ltb 0 (length s.bytes) ≡ share_address s r
  unfolding share_address
  share_down h l = ltb_same 0 (length s.bytes) (max s.first r.first) (min (span_end s) (span_end r)) (λ x. omega arith) (λ x. omega arith)

  pub share_not : min (span_end s) (span_end r) ≤ max s.first r.first → false ≡ share_address s r
  unfolding share_address
  share_not h = sym (le-ltb (max s.first r.first) (min (span_end s) (span_end r)) h)

  pub share_true : share_address s r ≡ true → max s.first r.first < min (span_end s) (span_end r)
  unfolding share_address
  share_true = ltb-true (max s.first r.first) (min (span_end s) (span_end r))

  pub share_false : share_address s r ≡ false → min (span_end s) (span_end r) ≤ max s.first r.first
  unfolding share_address
  share_false = ltb-false (max s.first r.first) (min (span_end s) (span_end r))

-- ---- a span holds a range
and_by : (s t : Bool) → (s && t) ≡ true → (s ≡ true) × (t ≡ true)
and_by true t h = (refl, h)
and_by false t h = no_true h

module _ (s : Span) (a k : ℕ) where
  pub holds_yes : s.first ≤ a → a + k ≤ span_end s → holds_range s a k ≡ true
  unfolding holds_range
  holds_yes h l = simp (le-leb s.first a h, le-leb (a + k) (span_end s) l)

  pub holds_not : (s.first ≤ a → span_end s < a + k) → holds_range s a k ≡ false
  unfolding holds_range
  holds_not h = cases a s.first (λ l. simp (lt-leb s.first a l)) (λ l. simp (le-leb s.first a l, lt-leb (a + k) (span_end s) (h l)))

  pub holds_true : holds_range s a k ≡ true → (s.first ≤ a) × (a + k ≤ span_end s)
  unfolding holds_range
  holds_true h = let p = and_by (leb s.first a) (leb (a + k) (span_end s)) h in (leb-true s.first a p.0, leb-true (a + k) (span_end s) p.1)

  pub holds_false : holds_range s a k ≡ false → s.first ≤ a → span_end s < a + k
  unfolding holds_range
  holds_false h l = leb-false (a + k) (span_end s) (simp (le-leb s.first a l) at h)

-- ---- the difference w of an address and a first address, modulo 2^64, where the span ends at 2^64 at most
module _ (s : Span) (a w : ℕ) (fits : span_end s ≤ 2 ^ 64) (wraps : (w + s.first) % 2 ^ 64 ≡ a) where
  pub wrapped_in : w < length s.bytes → (w ≡ a - s.first) × (holds_range s a 1 ≡ true)
  wrapped_in h = let e : w + s.first ≡ a = omega arith in (omega arith, holds_yes s a 1 (omega arith) (omega arith))

  pub wrapped_out : w < 2 ^ 64 → length s.bytes ≤ w → holds_range s a 1 ≡ false
  wrapped_out b h = holds_not s a 1 (λ l. omega arith)
