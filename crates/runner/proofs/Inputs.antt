-- Refusals 12 to 15, tried in their order.
use mathlib.Core.Bool.{Bool, true, false}
use mathlib.Core.List.{List, [], ◌∷◌}
use mathlib.Core.Logic.{◌≢◌}
use mathlib.Core.Path.{◌≡◌, refl, sym, ◌∙◌}
use Prim.Native.Nat.{ℕ, ◌≤◌, ◌<◌}
use lib.ListN.{length}
use lib.Dec.{ltb}
use borrow.Author.Tests.{lt-ltb, le-ltb}
use Rattle.sizes.specs.Sizes.{registers_most}
use Rattle.refusals.specs.Numbers.{registers_many, buffer_bad}
use Rattle.refusals.specs.Tried.{tried}
use Rattle.refusals.proofs.Promises.{none_holds, tried_first, tried_then}
use Rattle.memory.specs.Spans.{Target, span_tests, spans_refusal}
use Rattle.frames.specs.Buffer.{unfit}
use Rattle.machine.specs.Run.{input_tests}

module _ (registers : List ℕ) (t : Target) (b : List ℕ) (u : ℕ) where
  -- what is tried behind the spans
  abbrev behind : List (Bool × ℕ)
  behind = (ltb registers_most (length registers), registers_many) ∷ (unfit b u, buffer_bad) ∷ []

  pub spans_met : spans_refusal t ≢ 0 → spans_refusal t ≡ tried (input_tests registers t b u)
  unfolding spans_refusal
  spans_met h = sym (tried_first (span_tests t) behind h)

  -- no span is refused
  module _ (h : spans_refusal t ≡ 0) where
    spans_pass : tried (input_tests registers t b u) ≡ tried behind
    unfolding spans_refusal
    spans_pass = tried_then (span_tests t) behind (none_holds (span_tests t) tt h)

    pub registers_met : registers_most < length registers → registers_many ≡ tried (input_tests registers t b u)
    registers_met p = sym (spans_pass ∙ rw (lt-ltb registers_most (length registers) p) refl)

    module _ (p : length registers ≤ registers_most) where
      pub buffer_met : unfit b u ≡ true → buffer_bad ≡ tried (input_tests registers t b u)
      buffer_met q = sym (spans_pass ∙ rw (le-ltb registers_most (length registers) p, q) refl)

      pub all_fine : unfit b u ≡ false → 0 ≡ tried (input_tests registers t b u)
      all_fine q = sym (spans_pass ∙ rw (le-ltb registers_most (length registers) p, q) refl)
