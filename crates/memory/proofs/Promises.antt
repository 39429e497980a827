-- What users of `memory` may cite, each law stated in full and proved where it is named. The contracts of src/lib.rt
-- are the rest. A range is k bytes at the address a.
use Rattle.std.proofs.Common.{◌≡◌, ℕ, ◌+◌, ◌-◌, ◌^◌, ◌<◌, ◌≤◌, true, false, cond, leb, ◌≢◌, ◌⊎◌, ◌↔◌, List, [], Some, None, length, get_or, take, sym}
use Rattle.memory.specs.Spans.{Span, Target, span_end, InSpan, share_address, spans_refusal, FineSpans}
use Rattle.memory.specs.Fetch.{holds_range, readable, fetch_refusal, fetched, InTarget, target_byte, rest_of, Readable, PartOf}
use Rattle.memory.specs.Joining.Holding.{held_at}
use Rattle.memory.specs.declared.Held.TheVariants.{InImage, InWork}
use Rattle.memory.specs.FirstZero.{Sought, up_to_zero, all_of_size, cut_short, searched, FirstZero, NoneInSize, EndedBefore, Says}
use Rattle.memory.proofs.Testing as testing
use Rattle.memory.proofs.Spanning as spanning
use Rattle.memory.proofs.Fetching as fetching
use Rattle.memory.proofs.Searching as searching

-- ---- one span
-- a span that holds a range begins no later and ends no earlier
pub holds_means : (s : Span) (a k : ℕ) → holds_range s a k ≡ true → (s.first ≤ a) × (a + k ≤ span_end s)
holds_means = testing.holds_true

pub means_holds : (s : Span) (a k : ℕ) → s.first ≤ a → a + k ≤ span_end s → holds_range s a k ≡ true
means_holds = testing.holds_yes

-- ---- refusals 12 and 13
-- the test for a shared address holds exactly if some address lies in both spans
pub share_some : (s r : Span) → (share_address s r ≡ true) ↔ ((x : ℕ) × InSpan s x × InSpan r x)
share_some = spanning.share_some

pub share_none : (s r : Span) → (share_address s r ≡ false) ↔ ((x : ℕ) → InSpan s x → InSpan r x → ⊥)
share_none = spanning.share_none

module _ (t : Target) where
  -- 12 exactly if a first address + length exceeds 2^64; a sum of 2^64 is none
  pub spans_12 : (spans_refusal t ≡ 12) ↔ ((2 ^ 64 < span_end t.image) ⊎ (2 ^ 64 < span_end t.work))
  spans_12 = spanning.spans_12 t

  -- 13 exactly if 12 is not met and some address lies in both spans
  pub spans_13 : (spans_refusal t ≡ 13) ↔ ((span_end t.image ≤ 2 ^ 64) × (span_end t.work ≤ 2 ^ 64) × ((x : ℕ) × InSpan t.image x × InSpan t.work x))
  spans_13 = spanning.spans_13 t

  -- neither exactly if both sums are at most 2^64 and no address lies in both spans
  pub spans_0 : (spans_refusal t ≡ 0) ↔ FineSpans t
  spans_0 = spanning.spans_0 t

  -- ---- a span holds an address exactly if the byte there can be read
  pub target_holds : (x : ℕ) → (readable t x 1 ≡ true) ↔ InTarget t x
  target_holds = fetching.target_holds t

  -- the target's byte at an address is that of the span which holds it
  pub target_image : (x : ℕ) → InSpan t.image x → target_byte t x ≡ get_or t.image.bytes (x - t.image.first) 0
  target_image = fetching.target_image t

  pub target_work : spans_refusal t ≡ 0 → (x : ℕ) → InSpan t.work x → target_byte t x ≡ get_or t.work.bytes (x - t.work.first) 0
  target_work = fetching.target_work t

  -- each byte of a part of one span is the target's byte at its address, which a span holds
  pub target_part : spans_refusal t ≡ 0 → (a k : ℕ) (part : List ℕ) → PartOf t.image a k part ⊎ PartOf t.work a k part
      → (i : ℕ) → i < k → InTarget t (a + i) × (get_or part i 0 ≡ target_byte t (a + i))
  target_part = fetching.target_part t

  module _ (a k : ℕ) where
    -- ---- the refusal of a fetch
    -- a range of a byte or more is readable exactly if every address of it lies in one span
    pub readable_means : 1 ≤ k → (readable t a k ≡ true) ↔ Readable t a k
    readable_means = fetching.readable_means t a k

    -- 12 and 13 come first
    pub fetch_first : spans_refusal t ≢ 0 → fetch_refusal t a k ≡ spans_refusal t
    fetch_first n = sym (fetching.fetch_first t n a k)

    -- then 19, exactly if the range has a byte or more and no one span holds every address of it
    pub fetch_19 : (fetch_refusal t a k ≡ 19) ↔ ((spans_refusal t ≡ 0) × (1 ≤ k) × (Readable t a k → ⊥))
    fetch_19 = fetching.fetch_19 t a k

    -- none exactly if neither 12 nor 13 is met and the range, unless it is empty, lies in one span
    pub fetch_0 : (fetch_refusal t a k ≡ 0) ↔ ((spans_refusal t ≡ 0) × (1 ≤ k → Readable t a k))
    fetch_0 = fetching.fetch_0 t a k

    -- ---- the part lent
    -- a refused fetch lends an empty part
    pub fetched_refused : fetch_refusal t a k ≢ 0 → fetched t a k ≡ []
    fetched_refused n = sym (fetching.fetched_refused t a k n)

    -- any other lends exactly k bytes
    pub fetched_length : fetch_refusal t a k ≡ 0 → length (fetched t a k) ≡ k
    fetched_length = fetching.fetched_length t a k

    -- each is the target's byte at its address, which a span holds
    pub fetched_byte : fetch_refusal t a k ≡ 0 → (i : ℕ) → i < k
        → InTarget t (a + i) × (get_or (fetched t a k) i 0 ≡ target_byte t (a + i))
    fetched_byte = fetching.fetched_byte t a k

    -- and all of them are bytes of one span, which holds every one of the addresses
    pub fetched_part : fetch_refusal t a k ≡ 0 → 1 ≤ k → PartOf t.image a k (fetched t a k) ⊎ PartOf t.work a k (fetched t a k)
    fetched_part = fetching.fetched_part t a k

  -- ---- the span that holds an address, and the index of its byte there: what each answer says
  module _ (a : ℕ) {i : ℕ} where
    pub held_image : Some (InImage i) ≡ held_at t a → (holds_range t.image a 1 ≡ true) × (i ≡ a - t.image.first)
    held_image = fetching.held_image t a

    pub held_work : Some (InWork i) ≡ held_at t a → (holds_range t.image a 1 ≡ false) × (holds_range t.work a 1 ≡ true) × (i ≡ a - t.work.first)
    held_work = fetching.held_work t a

    pub image_index : Some (InImage i) ≡ held_at t a → i < length t.image.bytes
    image_index = fetching.image_index t a

    pub work_index : Some (InWork i) ≡ held_at t a → i < length t.work.bytes
    work_index = fetching.work_index t a

    -- and how many bytes there are from the address on
    pub image_rest : Some (InImage i) ≡ held_at t a → length (rest_of t a) ≡ length t.image.bytes - i
    image_rest = fetching.length_in_image t a

    pub work_rest : Some (InWork i) ≡ held_at t a → length (rest_of t a) ≡ length t.work.bytes - i
    work_rest = fetching.length_in_work t a

  pub nowhere_rest : (a : ℕ) → None ≡ held_at t a → length (rest_of t a) ≡ 0
  nowhere_rest = fetching.length_nowhere t

  -- ---- the bytes from an address to the end of its span, where neither 12 nor 13 is met: all that ref, trace and
  -- tracenz read
  module _ (fine : spans_refusal t ≡ 0) (a : ℕ) where
    -- a range of a byte or more is readable exactly if it is no longer
    pub rest_test : (k : ℕ) → 1 ≤ k → readable t a k ≡ leb k (length (rest_of t a))
    rest_test = fetching.rest_test t fine a

    pub rest_readable : (k : ℕ) → 1 ≤ k → Readable t a k ↔ (k ≤ length (rest_of t a))
    rest_readable = fetching.rest_readable t fine a

    -- so that is when a fetch is not refused, of any number of bytes
    pub rest_refusal : (k : ℕ) → fetch_refusal t a k ≡ cond (leb k (length (rest_of t a))) 0 19
    rest_refusal = fetching.rest_refusal t fine a

    -- and then it lends the first of them
    pub rest_fetched : (k : ℕ) → k ≤ length (rest_of t a) → fetched t a k ≡ take k (rest_of t a)
    rest_fetched = fetching.rest_fetched t fine a

    -- each is the target's byte at its address, which a span holds
    pub rest_byte : (i : ℕ) → i < length (rest_of t a)
        → InTarget t (a + i) × (get_or (rest_of t a) i 0 ≡ target_byte t (a + i))
    rest_byte = fetching.rest_byte t fine a

-- ---- the search for the first zero byte among the first `size` bytes of l
module _ (size : ℕ) (l : List ℕ) where
  -- found: byte n - 1 is zero and no earlier one is; n is at most the size and at most the number of bytes
  pub search_found : {n : ℕ} → searched size l ≡ up_to_zero n → FirstZero size l n
  search_found p = rw p at (searching.search_says size l)

  -- size reached: the first `size` bytes exist and none is zero
  pub search_reached : {n : ℕ} → searched size l ≡ all_of_size n → NoneInSize size l n
  search_reached p = rw p at (searching.search_says size l)

  -- bytes ended: fewer than `size` bytes exist and none is zero
  pub search_ended : {n : ℕ} → searched size l ≡ cut_short n → EndedBefore size l n
  search_ended p = rw p at (searching.search_says size l)

  -- and the other way: an outcome that says what is so is the search's
  pub says_search : (s : Sought) → Says size l s → s ≡ searched size l
  says_search = searching.says_search size l
