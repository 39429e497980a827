-- What a run leaves, by the number that it returns: from how the machine ended.
use mathlib.Core.List.{List, [], ◌∷◌, ◌++◌}
use mathlib.Core.Logic.{◌≢◌}
use mathlib.Core.Path.{◌≡◌, refl, sym, ap, ◌∙◌}
use Prim.Native.Nat.{ℕ, zero, suc, ◌+◌, ◌≤◌, ◌<◌}
use native.Mathlib.Omega.{arith}
use native.Mathlib.Decide.{ℕ_discrete}
use lib.ListN.{length, length-append}
use Rattle.encoding.specs.Written.{written_at}
use Rattle.sizes.specs.Sizes.{buffer_most}
use Rattle.refusals.specs.Refusal.{Refusal}
use Rattle.memory.specs.Spans.{Target, spans_refusal}
use Rattle.frames.specs.Record.{Record, encode_all}
use Rattle.frames.specs.Trailer.{tag_of}
use Rattle.frames.proofs.Promises.{frame_length}
use Rattle.verdict.specs.Verdict.{Verdict, accepted, refused, verdict}
use Rattle.verdict.proofs.Promises.{refused_number}
use Rattle.machine.specs.Given.{Given}
use Rattle.machine.specs.Machine.{Ended, completed, stopped}
use Rattle.machine.specs.Run.{input_refusal, ended, number_of, left_bytes, variables_of, used_of, buffer_of}
use Rattle.machine.specs.Recorded.{FromTarget, AllFromTarget, records_of, frame_of}
use Rattle.machine.proofs.Promises as machine

module _ (g : Given) where
  -- ---- a refused run
  refused_by : (o : Ended) → number_of o ≢ 0
      → (variables_of g o ≡ g.variables) × (used_of g o ≡ g.used) × (buffer_of g o ≡ written_at g.buffer g.used (encode_all (records_of o)))
  unfolding number_of variables_of used_of buffer_of left_bytes records_of
  refused_by (completed a n w rs) z = absurd (z refl)
  refused_by (stopped r rs) z = (refl, refl, refl)

  pub refused_leaves : number_of (ended g) ≢ 0
      → (variables_of g (ended g) ≡ g.variables) × (used_of g (ended g) ≡ g.used)
      × (buffer_of g (ended g) ≡ written_at g.buffer g.used (encode_all (records_of (ended g))))
  refused_leaves = refused_by (ended g)

  -- ---- a completed run
  -- it leaves one frame of its records
  pub record LeavesFrame (o : Ended) : Type 0 where
    pub used : used_of g o ≡ g.used + length (frame_of g o)
    pub buffer : buffer_of g o ≡ written_at g.buffer g.used (frame_of g o)
    pub fits : g.used + length (frame_of g o) ≤ length g.buffer
    pub small : length g.buffer ≤ buffer_most

  frame_by : (o : Ended) → ended g ≡ o → number_of o ≡ 0 → LeavesFrame o
  unfolding number_of used_of buffer_of left_bytes records_of
  frame_by (completed a n w rs) p z =
      let f = machine.completed_fits g a w rs p in
      record { used = refl; buffer = refl; fits = omega (arith, f.0, frame_length (tag_of g.tracepoint) rs); small = f.1 }
  frame_by (stopped r rs) p z = absurd (omega (arith, machine.stopped_number g p))

  pub leaves_frame : number_of (ended g) ≡ 0 → LeavesFrame (ended g)
  leaves_frame = frame_by (ended g) refl

  -- and its spans were not refused
  stopped_0 : {r : Refusal} → ended g ≡ stopped r [] → number_of (ended g) ≡ 0 → r.number ≡ 0
  unfolding number_of
  stopped_0 p z = ap number_of (sym p) ∙ z

  fine_by : (x : Verdict) → verdict g.expression ≡ x → number_of (ended g) ≡ 0 → spans_refusal g.target ≡ 0
  fine_by (accepted n h l) p z =
      elim (ℕ_discrete (input_refusal g) 0) [
        | yes q ↦ machine.spans_fine g q
        | no q ↦ absurd (q (stopped_0 (machine.inputs_refused g p q) z))
      ]
  fine_by (refused r) p z = absurd (omega (arith, refused_number g.expression p, stopped_0 (machine.refused_early g p) z))

  pub fine : number_of (ended g) ≡ 0 → spans_refusal g.target ≡ 0
  fine = fine_by (verdict g.expression) refl

  -- ---- a run that has made a record has stepped, so that its spans were not refused
  module _ (before : List Record) (x : Record) (behind : List Record) (p : records_of (ended g) ≡ before ++ (x ∷ behind)) where
    none_made : {r : Refusal} → ended g ≡ stopped r [] → ⊥
    unfolding records_of
    none_made e =
        let q : [] ≡ before ++ (x ∷ behind) = sym (ap records_of e) ∙ p in
        omega (arith, ap length q, length-append before (x ∷ behind))

    made_by : (y : Verdict) → verdict g.expression ≡ y → spans_refusal g.target ≡ 0
    made_by (accepted n h l) q =
        elim (ℕ_discrete (input_refusal g) 0) [
          | yes z ↦ machine.spans_fine g z
          | no z ↦ absurd (none_made (machine.inputs_refused g q z))
        ]
    made_by (refused r) q = absurd (none_made (machine.refused_early g q))

    pub made_fine : spans_refusal g.target ≡ 0
    made_fine = made_by (verdict g.expression) refl

-- ---- a record among others
-- the record number i of a list
pub record At (rs : List Record) (i : ℕ) : Type 0 where
  pub before : List Record
  pub here : Record
  pub behind : List Record
  pub split : rs ≡ before ++ (here ∷ behind)
  pub place : length before ≡ i

pub at : (rs : List Record) (i : ℕ) → i < length rs → At rs i
at [] i h = absurd (omega arith)
at (r ∷ rs) zero h = record { before = []; here = r; behind = rs; split = refl; place = refl }
at (r ∷ rs) (suc i) h =
    let x = at rs i (omega arith) in
    record { before = r ∷ x.before; here = x.here; behind = x.behind; split = ap (λ (l : List Record). r ∷ l) x.split; place = ap suc x.place }

pub all_at : (t : Target) (before : List Record) (r : Record) (behind : List Record) → AllFromTarget t (before ++ (r ∷ behind)) → FromTarget t r
all_at t [] r behind p = p.0
all_at t (x ∷ before) r behind p = all_at t before r behind p.1
