-- From a loop of steps to where the machine stands.
use mathlib.Core.List.{List, [], ◌∷◌, ◌++◌, append-nil, reverse, reverse_aux}
use mathlib.Core.Path.{◌≡◌, refl, ap, sym, subst, ◌∙◌}
use Prim.Native.Nat.{ℕ, zero, suc, ◌≤◌, ◌<◌, zero-le}
use native.Mathlib.Omega.{arith}
use lib.ListN.{length, get_or, take}
use Rattle.isa.specs.Joining.Held.{held}
use Rattle.std.specs.Prelude.{Option, Some, None, Result, Ok, Err, IfOk}
use Rattle.std.specs.Result.{result_ok}
use Rattle.memory.specs.declared.Memory.{Memory}
use Rattle.memory.specs.declared.Target.{Target}
use Rattle.verdict.specs.declared.Accepted as code_accepted
use Rattle.refusals.specs.Numbers.{number_or_0}
use Rattle.refusals.specs.declared.Reason.{Reason}
use Rattle.refusals.specs.declared.Refusal as code
use Rattle.refusals.proofs.Promises.{number_some}
use Rattle.frames.specs.Record.{Record}
use Rattle.verdict.specs.Verdict.{accepted, verdict, verdict_of}
use Rattle.machine.specs.Given.{Given, begin}
use Rattle.machine.specs.Machine as machine
use Rattle.machine.specs.Machine.{Standing, stands, over}
use Rattle.machine.specs.Run.{input_refusal, begun}
use Rattle.machine.specs.Standing.{standing_from}
use Rattle.machine.proofs.Promises.{begun_refused, begun_inputs, begun_fine, over_stays}
use Rattle.operations.specs.declared.Place.{Place}
use Rattle.runner.specs.Joining.Going.{Moved, GoesOn, HasEnded, IsRefused}
use Rattle.standing.specs.Seen.{seen, StandsIn, Stands}
use Rattle.standing.specs.Joining.Advancing.{Advanced}
use Rattle.standing.specs.declared.Stood.{Stood}

-- ---- the h lowest cells, from the top and from the bottom on
take_more : (l : List ℕ) (h : ℕ) (r : List ℕ) → h < length l → take h l ++ (get_or l h 0 ∷ r) ≡ take (suc h) l ++ r
take_more [] h r p = absurd (omega arith)
take_more (x ∷ l) zero r p = refl
take_more (x ∷ l) (suc h) r p = ap (λ (t : List ℕ). x ∷ t) (take_more l h r (omega arith))

from_bottom : (a : List ℕ) (h : ℕ) (r : List ℕ) → h ≤ length a → reverse_aux (held a h) r ≡ take h a ++ r
unfolding held
from_bottom a zero r p = refl
from_bottom a (suc h) r p = from_bottom a h (get_or a h 0 ∷ r) (omega arith) ∙ take_more a h r (omega arith)

cells_are : (a : List ℕ) (h : ℕ) → h ≤ length a → reverse (held a h) ≡ take h a
cells_are a h p = from_bottom a h [] p ∙ append-nil (take h a)

-- ---- the run has ended
over_told : (g : Given) {s : Standing} {o : machine.Ended} {a v b : List ℕ} → s ≡ over o → length a ≡ 64 → StandsIn g s None a v b
unfolding seen
over_told g p l = record { tells = rw p refl; within = λ w q. absurd (let z : ◌≡◌ {A = ℕ} 0 1 = cc in omega arith); long = l }

-- ---- what a loop of steps came to
module _ (g : Given) {a v b : List ℕ} where
  -- all steps are done
  pub stands_on : {q : Place} → GoesOn g q a v b → Advanced g (Some (record { at = q.at; height = q.height })) a v b
  unfolding seen
  stands_on {q} e = record {
    tells = rw (e.moved.same, e.moved.laid, cells_are a q.height (omega (arith, e.low, e.moved.long))) refl;
    within = λ w p. let x : q.at ≡ w.at = cc in let y : q.height ≡ w.height = cc in (omega (arith, e.inside), omega (arith, e.low));
    long = e.moved.long;
  }

  -- or it has ended
  over_by : {n : ℕ} {o : machine.Ended} {rs : List Record} → Moved g n (over o) rs a v b → Advanced g None a v b
  over_by {n} m = over_told g (over_stays g (stands (begin g)) n g.allowance m.same m.within) m.long

  pub stands_ended : {q : Place} {n : ℕ} → HasEnded g q n a v b → Advanced g None a v b
  stands_ended e = over_by e.moved

  pub stands_refused : {x : code.Refusal} → IsRefused g x a v b → Advanced g None a v b
  stands_refused e = over_by e.moved

-- ---- how a run begins: a refused expression, refused inputs, or the steps
ok_some : {A E : Type 0} (r : Result A E) {x : A} → result_ok r ≡ Some x → r ≡ Ok x
ok_some (Ok y) e = let z : y ≡ _ = cc e in ap Ok z
ok_some (Err y) e = absurd (cc e)

pub accepts : (l : List ℕ) (r : Result code_accepted.Accepted code.Refusal) {x : code_accepted.Accepted} → verdict_of r ≡ verdict l → result_ok r ≡ Some x
    → verdict l ≡ accepted x.count x.greatest x.longest
accepts l r p e = sym p ∙ ap verdict_of (ok_some r e)

module _ (g : Given) {a v b : List ℕ} where
  begun_over : {o : machine.Ended} → begun g ≡ over o → length a ≡ 64 → Stands g None a v b
  unfolding standing_from
  begun_over p l = over_told g (over_stays g (begun g) 0 g.allowance p zero-le) l

  -- r is the verifier's answer
  pub enter_refused : (r : Result code_accepted.Accepted code.Refusal) → verdict_of r ≡ verdict g.expression → result_ok r ≡ None → length a ≡ 64 → Stands g None a v b
  enter_refused (Ok x) p e l = absurd (cc e)
  enter_refused (Err x) p e l = begun_over (begun_refused g (sym p)) l

  module _ (r : Result code_accepted.Accepted code.Refusal) {x : code_accepted.Accepted} (p : verdict_of r ≡ verdict g.expression) (e : result_ok r ≡ Some x) where
    -- and i is what is said of the inputs
    pub enter_inputs : (i : Result Memory Reason) → number_or_0 i ≡ input_refusal g → result_ok i ≡ None → length a ≡ 64 → Stands g None a v b
    enter_inputs (Ok m) q n l = absurd (cc n)
    enter_inputs (Err y) q n l = begun_over (begun_inputs g (accepts g.expression r p e) (λ z. omega (arith, number_some y, q, z))) l

    pub enter_steps : (i : Result Memory Reason) → number_or_0 i ≡ input_refusal g → {m : Memory} → result_ok i ≡ Some m → {w : Option Stood} → Advanced g w a v b → Stands g w a v b
    enter_steps i q n {w} d =
        subst (λ (s : Standing). StandsIn g (standing_from g s g.allowance) w a v b) (sym (begun_fine g (accepts g.expression r p e) (sym q ∙ ap number_or_0 (ok_some i n)))) d

pub allowed : (i : Result Memory Reason) {k : ℕ} → number_or_0 i ≡ k → {m : Memory} → result_ok i ≡ Some m → k ≡ 0
allowed i q n = sym q ∙ ap number_or_0 (ok_some i n)

pub same_target : (i : Result Memory Reason) {t : Target} → IfOk i (λ m. m.target ≡ t) → {m : Memory} → result_ok i ≡ Some m → m.target ≡ t
same_target (Ok y) s {m} n = let z : y ≡ m = cc n in rw (← z) s
same_target (Err y) s n = absurd (cc n)
