-- Reading target memory: document 01, "Meanings the manual leaves open", and refusal 19. A range is a number k of bytes
-- at an address a.
use Rattle.std.specs.Prelude.{◌≡◌, ℕ, ◌+◌, ◌-◌, ◌<◌, Bool, cond, not, ◌&&◌, ◌||◌, ◌⊎◌, List, [], ◌∷◌, ◌++◌, take, drop, ◌==◌, nat_le, nat_lt, slice_index}
use Rattle.refusals.specs.Numbers.{range_not_readable}
use Rattle.refusals.specs.Tried.{tried}
use Rattle.memory.specs.Spans.{Span, Target, span_end, InSpan, span_tests}

-- all of the range lies in the span; a + k is a number without bound, since "addresses never wrap"
unfoldable pub holds_range : Span → ℕ → ℕ → Bool
holds_range s a k = nat_le s.first a && nat_le (a + k) (span_end s)

-- "readable exactly if all of it lies in one span"
unfoldable pub readable : Target → ℕ → ℕ → Bool
readable t a k = holds_range t.image a k || holds_range t.work a k

-- "12 and 13 come first"; then 19 for a range of one byte or more that is not readable
unfoldable pub fetch_refusal : Target → ℕ → ℕ → ℕ
fetch_refusal t a k = tried (span_tests t ++ ((nat_lt 0 k && not (readable t a k), range_not_readable) ∷ []))

-- what `of` makes of "whichever span holds them", the k bytes at a, and `none` where neither does
abbrev pub whichever : {A : Type 0} → Target → ℕ → ℕ → (Span → A) → A → A
whichever t a k of none = cond (holds_range t.image a k) (of t.image) (cond (holds_range t.work a k) (of t.work) none)

-- the bytes of a span from the address a on, and the first k of them
abbrev pub bytes_from : ℕ → Span → List ℕ
bytes_from a s = drop (a - s.first) s.bytes

abbrev pub bytes_at : ℕ → ℕ → Span → List ℕ
bytes_at k a s = take k (bytes_from a s)

-- the bytes lent: those of the range; "A refused fetch .. lends an empty part too"
unfoldable pub fetched : Target → ℕ → ℕ → List ℕ
fetched t a k =
    cond (fetch_refusal t a k == 0) (whichever t a k (bytes_at k a) []) []

-- a span holds the address x
abbrev pub InTarget : Target → ℕ → Type 0
InTarget t x = InSpan t.image x ⊎ InSpan t.work x

-- the target's byte at the address x, which a span holds (`InTarget`); 0 where none does, so that this alone does not
-- say that there is a byte
unfoldable pub target_byte : Target → ℕ → ℕ
target_byte t x = whichever t x 1 (λ s. slice_index s.bytes (x - s.first)) 0

-- the bytes from the address a to the end of the span that holds it, for use where neither 12 nor 13 is met
unfoldable pub rest_of : Target → ℕ → List ℕ
rest_of t a = whichever t a 1 (bytes_from a) []

-- ---- the same of each address, with no sum: every one of the k addresses from a on lies in the span
abbrev pub Within : Span → ℕ → ℕ → Type 0
Within s a k = (i : ℕ) → i < k → InSpan s (a + i)

-- all of the range lies in one span
abbrev pub Readable : Target → ℕ → ℕ → Type 0
Readable t a k = Within t.image a k ⊎ Within t.work a k

-- a part that is the k bytes at a of the one span
pub record PartOf (s : Span) (a k : ℕ) (part : List ℕ) : Type 0 where
  pub within : Within s a k
  pub same : part ≡ bytes_at k a s
