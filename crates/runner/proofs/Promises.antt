-- What users of `runner` may cite. R1 is the contract of `run` and of `run_default` in src/lib.rt: on any input
-- whatever, the answer, the variables and every byte of the buffer are those of document 01's machine (`ended`),
-- completed or refused. The rest follows from it, for any run r that has ended as the machine.
use mathlib.Core.List.{List}
use mathlib.Core.Logic.{◌≢◌}
use mathlib.Core.Path.{◌≡◌}
use Prim.Native.Nat.{ℕ, ◌+◌, ◌≤◌}
use lib.ListN.{length}
use Rattle.sizes.specs.Sizes.{buffer_most}
use Rattle.std.specs.Prelude.{Result, Ok, Err}
use Rattle.refusals.specs.declared.Refusal.{Refusal}
use Rattle.refusals.specs.Numbers.{number_of, allowance_spent}
use Rattle.encoding.specs.Written.{written_at}
use Rattle.frames.specs.Record.{encode_all}
use Rattle.verdict.specs.Verdict.{accepted, verdict}
use Rattle.machine.specs.Given.{Given}
use Rattle.machine.specs.Run.{ended, steps_of}
use Rattle.machine.specs.Recorded.{AllFromTarget, records_of, frame_of}
use Rattle.machine.proofs.Promises.{records_from_target}
use Rattle.runner.specs.Returned.{Ran, steps_reported}
use Rattle.runner.specs.declared.Completed.{Completed}
use Rattle.runner.proofs.Reporting as reporting
-- is-accepted: what the verifier accepts is accepted, as the functions behind the entries ask it
pub use Rattle.runner.proofs.Entering.{is_accepted}

module _ {g : Given} {r : Result Completed Refusal} {v b : List ℕ} (ran : Ran g r v b) where
  -- ---- R2, demand 3: the steps are the machine's, at most the allowance, and at most the longest walk that the
  -- verifier told
  pub steps_machine : steps_reported r ≡ steps_of (ended g)
  steps_machine = reporting.steps_machine ran

  pub steps_allowed : steps_reported r ≤ g.allowance
  steps_allowed = reporting.steps_allowed ran

  pub steps_longest : {n h l : ℕ} → verdict g.expression ≡ accepted n h l → steps_reported r ≤ l
  steps_longest = reporting.steps_longest ran

  -- an allowance of at least the longest walk is never refused for allowance
  pub allowance_enough : {n h l : ℕ} → verdict g.expression ≡ accepted n h l → l ≤ g.allowance → {x : Refusal} → r ≡ Err x → number_of x.reason ≢ allowance_spent
  allowance_enough = reporting.allowance_enough ran

  -- ---- R3: every memory record holds exactly the target's bytes at its address
  pub target_bytes : AllFromTarget g.target (records_of (ended g))
  target_bytes = records_from_target g

  -- ---- R4: a refused run leaves the variables as given, and in the buffer the records completed and no other byte
  pub refused_leaves : {x : Refusal} → r ≡ Err x → (v ≡ g.variables) × (b ≡ written_at g.buffer g.used (encode_all (records_of (ended g))))
  refused_leaves = reporting.refused_leaves ran

  module _ {c : Completed} (q : r ≡ Ok c) where
    -- a completed run leaves one frame of its records and no other byte, and the used length grows by exactly that
    pub completed_leaves : (c.used ≡ g.used + length (frame_of g (ended g))) × (b ≡ written_at g.buffer g.used (frame_of g (ended g)))
    completed_leaves = reporting.completed_leaves ran q

    -- which had room in a buffer of an allowed size
    pub completed_fits : (g.used + length (frame_of g (ended g)) ≤ length g.buffer) × (length g.buffer ≤ buffer_most)
    completed_fits = reporting.completed_fits ran q
