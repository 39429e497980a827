-- Target memory (document 01, "Sizes"), and refusals 12 and 13.
use Rattle.std.specs.Prelude.{ℕ, ◌+◌, ◌^◌, ◌<◌, ◌≤◌, min, max, Bool, List, [], ◌∷◌, length, nat_lt}
use Rattle.refusals.specs.Numbers.{span_past_end, spans_share}
use Rattle.refusals.specs.Tried.{tried}
use Rattle.memory.specs.declared.Span as code_span
use Rattle.memory.specs.declared.Target as code

-- "each a first address and lent bytes"
pub record Span : Type 0 where
  pub first : ℕ
  pub bytes : List ℕ

-- "Target memory: two spans, the program image and the working memory"
pub record Target : Type 0 where
  pub image : Span
  pub work : Span

abbrev pub span : ℕ → List ℕ → Span
span f l = record { first = f; bytes = l }

-- by the first address and the bytes of each
abbrev pub target : ℕ → List ℕ → ℕ → List ℕ → Target
target f i g w = record { image = span f i; work = span g w }

-- the same of the code's
abbrev pub span_of : code_span.Span → Span
span_of s = span s.first s.bytes.now

abbrev pub target_of : code.Target → Target
target_of t = record { image = span_of t.image; work = span_of t.work }

-- first address + length
abbrev pub span_end : Span → ℕ
span_end s = s.first + length s.bytes

-- the address x lies in the span
abbrev pub InSpan : Span → ℕ → Type 0
InSpan s x = (s.first ≤ x) × (x < span_end s)

-- 12: "first address + length exceeds 2^64"
unfoldable pub ends_past : Span → Bool
ends_past s = nat_lt (2 ^ 64) (span_end s)

-- 13: "spans share an address": the greater first address lies before both ends. "An empty span shares no address": it
-- ends where it begins.
unfoldable pub share_address : Span → Span → Bool
share_address s r = nat_lt (max s.first r.first) (min (span_end s) (span_end r))

-- 12 for either span before 13
abbrev pub span_tests : Target → List (Bool × ℕ)
span_tests t =
    (ends_past t.image, span_past_end)
    ∷ (ends_past t.work, span_past_end)
    ∷ (share_address t.image t.work, spans_share)
    ∷ []

-- 12 or 13, or 0 where neither is met
unfoldable pub spans_refusal : Target → ℕ
spans_refusal t = tried (span_tests t)

-- Spans that are met with neither, in the words of document 01
pub record FineSpans (t : Target) : Type 0 where
  pub image_fits : span_end t.image ≤ 2 ^ 64
  pub work_fits : span_end t.work ≤ 2 ^ 64
  pub apart : (x : ℕ) → InSpan t.image x → InSpan t.work x → ⊥
