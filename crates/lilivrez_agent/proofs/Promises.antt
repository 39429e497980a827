-- What users of the library may cite. The contracts of src/ say what each function returns and stores, on any input
-- whatever; the rest follows from them.
use mathlib.Core.Logic.{◌≢◌}
use mathlib.Core.Path.{◌≡◌}
use Prim.Native.Nat.{ℕ, ◌+◌, ◌≤◌}
use lib.ListN.{length, take, drop}
use Rattle.memory.specs.Spans.{Target}
use Rattle.memory.specs.Fetch.{fetch_refusal, fetched}
use Rattle.machine.specs.Given.{Given}
use Rattle.machine.specs.Run.{ended, number_of}
use Rattle.lilivrez_agent.specs.Lent.{span_of, lent_at}
use Rattle.lilivrez_agent.specs.RunValues.{IsCompleted}
use Rattle.lilivrez_agent.proofs.Lending as lending
use Rattle.lilivrez_agent.proofs.Numbers as numbers

-- ---- a fetch of the k bytes at the address a
module _ (t : Target) (a k : ℕ) where
  -- where it is not refused, k bytes from the place stored, in the span whose number is stored, are exactly the bytes
  -- that the fetch lends
  pub lent_bytes : fetch_refusal t a k ≡ 0 → 1 ≤ k
      → fetched t a k ≡ take k (drop (lent_at t a k).1 (span_of t (lent_at t a k).0))
  lent_bytes = lending.lent_bytes t a k

  -- and that span has all of them
  pub lent_within : fetch_refusal t a k ≡ 0 → 1 ≤ k → (lent_at t a k).1 + k ≤ length (span_of t (lent_at t a k).0)
  lent_within = lending.lent_within t a k

  -- a refused fetch, and one of no bytes, names no span
  pub lent_refused : fetch_refusal t a k ≢ 0 → lent_at t a k ≡ (0, 0)
  lent_refused = lending.lent_refused t a k

  pub lent_empty : k ≡ 0 → lent_at t a k ≡ (0, 0)
  lent_empty = lending.lent_empty t a k

-- ---- a run
module _ (g : Given) where
  -- a number returned is one of 0 to 21
  pub number_most : number_of (ended g) ≤ 21
  number_most = numbers.number_most g

  -- and 0 is returned only where the run completed
  pub number_0 : number_of (ended g) ≡ 0 → IsCompleted (ended g)
  number_0 = numbers.number_0 g
