-- What a range makes, by the tests that the code makes.
use mathlib.Core.List.{List, []}
use mathlib.Core.Logic.{◌≢◌}
use mathlib.Core.Path.{◌≡◌, refl, sym, ap, ◌∙◌}
use Prim.Native.Nat.{ℕ, ◌≤◌, ◌<◌, min}
use native.Mathlib.Omega.{arith}
use lib.ListN.{length, take}
use lib.Dec.{leb}
use borrow.Author.Tests.{eq-eqb, ne_eqb, le-leb, lt-leb, lt-ltb, le-ltb}
use Rattle.sizes.specs.Sizes.{record_most}
use Rattle.refusals.specs.Numbers.{range_not_readable, record_size}
use Rattle.memory.specs.Spans.{Target, spans_refusal}
use Rattle.memory.specs.Fetch.{readable, fetched, rest_of}
use Rattle.memory.specs.FirstZero.{sought_of, searched}
use Rattle.memory.specs.declared.Search.{Search}
use Rattle.memory.specs.declared.Search.TheVariants.{Found, Reached, Ended}
use Rattle.memory.proofs.Promises.{rest_test, rest_fetched, search_found, search_reached}
use Rattle.frames.specs.Record.{memory}
use Rattle.machine.specs.Recording.{made, refuses, fitting, range_made, zero_made, to_zero_made}

module _ (t : Target) (free a n : ℕ) where
  pub range_none : n ≡ 0 → range_made t free a n ≡ made []
  unfolding range_made
  range_none h = rw (eq-eqb n 0 h)

  pub zero_none : n ≡ 0 → to_zero_made t free a n ≡ made []
  unfolding to_zero_made
  zero_none h = rw (eq-eqb n 0 h)

  module _ (some : n ≢ 0) where
    pub range_long : record_most < n → range_made t free a n ≡ refuses record_size
    unfolding range_made
    range_long h = rw (ne_eqb n 0 some, lt-ltb record_most n h)

    -- l are the bytes from the address to the end of its span
    module _ {l : List ℕ} (lent : l ≡ rest_of t a) where
      module _ (fine : spans_refusal t ≡ 0) (small : n ≤ record_most) where
        range_by : readable t a n ≡ leb n (length l)
        range_by = rest_test t fine a n (omega arith) ∙ ap (λ (x : List ℕ). leb n (length x)) (sym lent)

        pub range_ends : length l < n → range_made t free a n ≡ refuses range_not_readable
        unfolding range_made
        range_ends h = rw (ne_eqb n 0 some, le-ltb record_most n small, range_by, lt-leb n (length l) h)

        pub range_fits : n ≤ length l → range_made t free a n ≡ fitting free (memory a (take n l))
        unfolding range_made
        range_fits h =
            let e : fetched t a n ≡ take n l =
            rest_fetched t fine a n (rw lent at h) ∙ ap (take n) (sym lent) in
            rw (ne_eqb n 0 some, le-ltb record_most n small, range_by, le-leb n (length l) h, e)

      module _ {k : ℕ} (o : Search) (limit : k ≡ min n record_most) (search : sought_of o ≡ searched k l) where
        zero_by : to_zero_made t free a n ≡ zero_made free a n l (sought_of o)
        unfolding to_zero_made
        zero_by = rw (ne_eqb n 0 some, ← lent, ← limit) (ap (zero_made free a n l) (sym search))

        pub zero_ended : {c : ℕ} → o ≡ Ended c → to_zero_made t free a n ≡ refuses range_not_readable
        zero_ended e = zero_by ∙ ap (λ (x : Search). zero_made free a n l (sought_of x)) e

        pub zero_found : {c : ℕ} → o ≡ Found c → to_zero_made t free a n ≡ fitting free (memory a (take c l))
        zero_found e = zero_by ∙ ap (λ (x : Search). zero_made free a n l (sought_of x)) e

        pub zero_reached : {c : ℕ} → o ≡ Reached c → n ≤ record_most → to_zero_made t free a n ≡ fitting free (memory a (take c l))
        zero_reached e h = zero_by ∙ ap (λ (x : Search). zero_made free a n l (sought_of x)) e ∙ rw (le-leb n record_most h)

        pub zero_long : {c : ℕ} → o ≡ Reached c → record_most < n → to_zero_made t free a n ≡ refuses record_size
        zero_long e h = zero_by ∙ ap (λ (x : Search). zero_made free a n l (sought_of x)) e ∙ rw (lt-leb n record_most h)

-- the bytes to record exist, and are no more than a record holds
module _ (n : ℕ) (l : List ℕ) {k c : ℕ} (o : Search) (limit : k ≡ min n record_most) (search : sought_of o ≡ searched k l) where
  pub found_in : o ≡ Found c → (c ≤ length l) × (c ≤ record_most)
  found_in e = let q = search_found k l (sym search ∙ ap sought_of e) in (q.in_bytes, omega (arith, q.in_size))

  pub reached_in : o ≡ Reached c → (c ≤ length l) × (c ≤ record_most)
  reached_in e = let q = search_reached k l (sym search ∙ ap sought_of e) in (omega (arith, q.all, q.exist), omega (arith, q.all))

-- the same of equal addresses and sizes
module _ (t : Target) (free : ℕ) {a a' n n' : ℕ} (p : a' ≡ a) (q : n' ≡ n) where
  pub range_same : range_made t free a n ≡ range_made t free a' n'
  range_same = rw (p, q) refl

  pub zero_same : to_zero_made t free a n ≡ to_zero_made t free a' n'
  zero_same = rw (p, q) refl
