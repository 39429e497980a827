-- What the code reports, from how the machine ended.
use mathlib.Core.List.{List}
use mathlib.Core.Logic.{◌≢◌}
use mathlib.Core.Path.{◌≡◌, refl, ap, sym, ◌∙◌}
use Prim.Native.Nat.{ℕ, ◌+◌, ◌≤◌}
use native.Mathlib.Omega.{arith}
use lib.ListN.{length}
use Rattle.sizes.specs.Sizes.{buffer_most}
use Rattle.std.specs.Prelude.{Result, Ok, Err}
use Rattle.refusals.specs.Refusal.{told}
use Rattle.refusals.specs.Refusal as numbers
use Rattle.refusals.specs.declared.Refusal.{Refusal}
use Rattle.refusals.specs.Numbers.{number_of, allowance_spent}
use Rattle.encoding.specs.Written.{written_at}
use Rattle.frames.specs.Record.{encode_all}
use Rattle.frames.specs.Trailer.{tag_of}
use Rattle.frames.proofs.Promises.{frame_length}
use Rattle.verdict.specs.Verdict.{accepted, verdict}
use Rattle.machine.specs.Given.{Given}
use Rattle.machine.specs.Machine.{Answer, Ended, completed, stopped}
use Rattle.machine.specs.Run as run
use Rattle.machine.specs.Run.{ended, steps_of, left_bytes, variables_of, used_of, buffer_of}
use Rattle.machine.specs.Recorded.{records_of, frame_of}
use Rattle.machine.proofs.Promises as machine
use Rattle.runner.specs.Returned.{completed_with, refused_with, returned, returned_by, Ran, steps_reported}
use Rattle.runner.specs.declared.Completed.{Completed}

never : {A : Type 0} {r : numbers.Refusal} {a : Answer} {n u : ℕ} → refused_with r ≡ completed_with a n u → A
never p = absurd (let z : ◌≡◌ {A = ℕ} 0 1 = cc in omega arith)

module _ (g : Given) where
  steps_by : (r : Result Completed Refusal) (o : Ended) → returned_by r ≡ returned g o → steps_reported r ≡ steps_of o
  unfolding returned steps_of
  steps_by (Ok c) (completed x k v rs) p = cc
  steps_by (Ok c) (stopped x rs) p = never (sym p)
  steps_by (Err y) (completed x k v rs) p = never p
  steps_by (Err y) (stopped x rs) p = cc

  number_by : (y : Refusal) (o : Ended) → returned_by (Err y) ≡ returned g o → run.number_of o ≡ number_of y.reason
  unfolding returned run.number_of
  number_by y (completed x k v rs) p = never p
  number_by y (stopped x rs) p = cc

  pub refused_by : (y : Refusal) (o : Ended) → returned_by (Err y) ≡ returned g o
      → (variables_of g o ≡ g.variables) × (buffer_of g o ≡ written_at g.buffer g.used (encode_all (records_of o)))
  unfolding returned variables_of buffer_of left_bytes records_of
  refused_by y (completed x k w rs) p = never p
  refused_by y (stopped x rs) p = (refl, refl)

  completed_by : (c : Completed) (o : Ended) → returned_by (Ok c) ≡ returned g o
      → (c.used ≡ g.used + length (frame_of g o)) × (buffer_of g o ≡ written_at g.buffer g.used (frame_of g o))
  unfolding returned used_of buffer_of left_bytes records_of
  completed_by c (completed x k v rs) p = (cc, refl)
  completed_by c (stopped x rs) p = never (sym p)

  fits_by : (c : Completed) (o : Ended) → ended g ≡ o → returned_by (Ok c) ≡ returned g o
      → (g.used + length (frame_of g o) ≤ length g.buffer) × (length g.buffer ≤ buffer_most)
  unfolding returned records_of
  fits_by c (completed x k z rs) e p =
      let w = machine.completed_fits g x z rs e in
      (omega (arith, w.0, frame_length (tag_of g.tracepoint) rs), w.1)
  fits_by c (stopped x rs) e p = never (sym p)

module _ {g : Given} {r : Result Completed Refusal} {v b : List ℕ} (ran : Ran g r v b) where
  pub steps_machine : steps_reported r ≡ steps_of (ended g)
  steps_machine = steps_by g r (ended g) ran.answer

  pub steps_allowed : steps_reported r ≤ g.allowance
  steps_allowed = rw steps_machine (machine.steps_allowed g)

  pub steps_longest : {n h l : ℕ} → verdict g.expression ≡ accepted n h l → steps_reported r ≤ l
  steps_longest p = rw steps_machine (machine.steps_longest g p)

  pub allowance_enough : {n h l : ℕ} → verdict g.expression ≡ accepted n h l → l ≤ g.allowance → {x : Refusal} → r ≡ Err x → number_of x.reason ≢ allowance_spent
  allowance_enough p h q z = machine.allowance_enough g p h (number_by g _ (ended g) (ap returned_by (sym q) ∙ ran.answer) ∙ z)

  pub refused_leaves : {x : Refusal} → r ≡ Err x → (v ≡ g.variables) × (b ≡ written_at g.buffer g.used (encode_all (records_of (ended g))))
  refused_leaves q =
      let e = refused_by g _ (ended g) (ap returned_by (sym q) ∙ ran.answer) in
      (ran.variables ∙ e.0, ran.buffer ∙ e.1)

  module _ {c : Completed} (q : r ≡ Ok c) where
    pub completed_leaves : (c.used ≡ g.used + length (frame_of g (ended g))) × (b ≡ written_at g.buffer g.used (frame_of g (ended g)))
    completed_leaves =
        let e = completed_by g _ (ended g) (ap returned_by (sym q) ∙ ran.answer) in
        (e.0, ran.buffer ∙ e.1)

    pub completed_fits : (g.used + length (frame_of g (ended g)) ≤ length g.buffer) × (length g.buffer ≤ buffer_most)
    completed_fits = fits_by g _ (ended g) refl (ap returned_by (sym q) ∙ ran.answer)
