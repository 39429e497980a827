-- The steps of a run: at most the allowance and at most the longest walk, which is enough of an allowance.
use mathlib.Core.Bool.{Bool, true, false}
use mathlib.Core.List.{List, []}
use mathlib.Core.Logic.{◌≢◌}
use mathlib.Core.Path.{◌≡◌, refl, ap}
use Prim.Native.Nat.{ℕ, zero, suc, ◌+◌, ◌≤◌, zero-le}
use native.Mathlib.Omega.{arith}
use lib.Dec.{eqb}
use borrow.Author.Tests.{ne_eqb, eqb-true, eqb-false}
use Rattle.refusals.specs.Refusal.{Refusal}
use Rattle.refusals.specs.Refusal.{refusal, refusal_after}
use Rattle.refusals.proofs.Promises.{tried_most}
use Rattle.isa.specs.Classes.{kind_end}
use Rattle.isa.specs.Decode.{kind_at}
use Rattle.frames.specs.Record.{Record}
use Rattle.verdict.specs.Verdict.{Verdict, accepted, refused, verdict}
use Rattle.verdict.specs.Acceptance.{Accepted}
use Rattle.verdict.proofs.Promises.{accepted_means, refused_number, refused_plain, longest_length}
use Rattle.machine.specs.Given.{Given, fixed_of, State, begin, free_of}
use Rattle.machine.specs.Meaning.{Done, leaves, faults, done}
use Rattle.machine.specs.Machine.{Ended, completed, stopped, answer, moved, stands, over, moved_by, onward, moves}
use Rattle.machine.specs.Run.{input_tests, input_refusal, after_verdict, begun, stepped, ended, steps_of, number_of}
use Rattle.machine.proofs.Cells.{by_test}
use Rattle.machine.proofs.Following.{OnWalk, walk_begins, steps_short, walk_moves, walk_faults}

-- ---- the number of a refusal is one of 1 to 21
abbrev NumberedEnd : Ended → Type 0
NumberedEnd (completed a n v rs) = Unit {0}
NumberedEnd (stopped r rs) = (1 ≤ r.number) × (r.number ≤ 21)

-- ---- one move
module _ (m : Given) (go : State → Ended) (st : State) (P : Ended → Type 0) where
  onward_to : (cells : List ℕ) (rs : List Record) (t : Bool) → (t ≡ true → P (completed (answer st.stack) (st.steps + 1) st.variables st.records))
      → (t ≡ false → P (go (moved m st cells rs)))
      → P (onward go (elim t [ true ↦ over (completed (answer st.stack) (st.steps + 1) st.variables st.records) | false ↦ stands (moved m st cells rs) ]))
  onward_to cells rs true f g = f refl
  onward_to cells rs false f g = g refl

  -- what holds at an end, after any other instruction and at a refusal holds after a move
  pub onward_by : (d : Done)
      → ((cells : List ℕ) (rs : List Record) → d ≡ leaves cells rs → kind_at m.expression st.offset ≡ kind_end → P (completed (answer st.stack) (st.steps + 1) st.variables st.records))
      → ((cells : List ℕ) (rs : List Record) → d ≡ leaves cells rs → kind_at m.expression st.offset ≢ kind_end → P (go (moved m st cells rs)))
      → ((n : ℕ) → d ≡ faults n → P (stopped (refusal_after n st.offset st.steps) st.records))
      → P (onward go (moved_by m st d))
  onward_by (leaves cells rs) f g h =
      onward_to cells rs (eqb (kind_at m.expression st.offset) kind_end) (λ t. f cells rs refl (eqb-true _ _ t)) (λ t. g cells rs refl (eqb-false _ _ t))
  onward_by (faults n) f g h = h n refl

-- ---- moves
module _ (m : Given) where
  -- no more steps than are left
  pub moves_allowed : (left : ℕ) (st : State) → steps_of (moves m left st) ≤ st.steps + left
  unfolding moves steps_of
  moves_allowed zero st = omega arith
  moves_allowed (suc left) st =
      onward_by m (moves m left) st (λ o. steps_of o ≤ st.steps + suc left)
      (done (fixed_of m) st.offset st.stack st.variables (free_of m st))
      (λ _ _ _ _. omega arith) (λ cells rs p h. omega (arith, moves_allowed left (moved m st cells rs))) (λ n p. omega arith)

  module _ {n g l : ℕ} (a : Accepted m.expression n g l) where
    -- no more steps than the longest walk has instructions
    pub moves_longest : (left : ℕ) (st : State) → OnWalk m.expression st.offset st.stack st.steps → steps_of (moves m left st) ≤ l
    unfolding moves steps_of
    moves_longest zero st w = omega (arith, steps_short a w)
    moves_longest (suc left) st w =
        let free = free_of m st in
        onward_by m (moves m left) st (λ o. steps_of o ≤ l) (done (fixed_of m) st.offset st.stack st.variables free)
        (λ _ _ _ _. steps_short a w) (λ cells rs p h. moves_longest left (moved m st cells rs) (walk_moves (fixed_of m) a w st.variables free p h)) (λ n p. omega (arith, steps_short a w))

    -- as many steps left as the longest walk still has are enough
    pub moves_enough : (left : ℕ) (st : State) → OnWalk m.expression st.offset st.stack st.steps → l ≤ st.steps + left → number_of (moves m left st) ≢ 16
    unfolding moves number_of
    moves_enough zero st w e = absurd (omega (arith, steps_short a w))
    moves_enough (suc left) st w e =
        let free = free_of m st in
        onward_by m (moves m left) st (λ o. number_of o ≢ 16) (done (fixed_of m) st.offset st.stack st.variables free)
        (λ _ _ _ _. omega arith) (λ cells rs p h. moves_enough left (moved m st cells rs) (walk_moves (fixed_of m) a w st.variables free p h) (omega arith))
        (λ n p. omega (arith, walk_faults (fixed_of m) a w st.variables free p))

    moves_numbered : (left : ℕ) (st : State) → OnWalk m.expression st.offset st.stack st.steps → NumberedEnd (moves m left st)
    unfolding moves
    moves_numbered zero st w = (omega arith, omega arith)
    moves_numbered (suc left) st w =
        let free = free_of m st in
        onward_by m (moves m left) st NumberedEnd (done (fixed_of m) st.offset st.stack st.variables free)
        (λ _ _ _ _. tt) (λ cells rs p h. moves_numbered left (moved m st cells rs) (walk_moves (fixed_of m) a w st.variables free p h))
        (λ n p. let x = walk_faults (fixed_of m) a w st.variables free p in (omega (arith, x), x.1))

-- ---- whole runs
module _ (m : Given) where
  -- a refused expression and refused inputs end the run before it steps; else it stands in its beginning
  pub begun_refused : {r : Refusal} → verdict m.expression ≡ refused r → begun m ≡ over (stopped r [])
  begun_refused p = rw p

  pub refused_early : {r : Refusal} → verdict m.expression ≡ refused r → ended m ≡ stopped r []
  unfolding ended
  refused_early p = ap (onward (moves m m.allowance)) (begun_refused p)

  module _ {n g l : ℕ} (p : verdict m.expression ≡ accepted n g l) where
    pub begun_inputs : input_refusal m ≢ 0 → begun m ≡ over (stopped (refusal (input_refusal m) 0) [])
    begun_inputs h = rw (p, ne_eqb (input_refusal m) 0 h)

    pub begun_fine : input_refusal m ≡ 0 → begun m ≡ stands (begin m)
    begun_fine h = rw (p, h)

    pub inputs_refused : input_refusal m ≢ 0 → ended m ≡ stopped (refusal (input_refusal m) 0) []
    unfolding ended
    inputs_refused h = ap (onward (moves m m.allowance)) (begun_inputs h)

    pub inputs_fine : input_refusal m ≡ 0 → ended m ≡ stepped m
    unfolding ended
    inputs_fine h = ap (onward (moves m m.allowance)) (begun_fine h)

  refusal_low : input_refusal m ≤ 15
  unfolding input_refusal
  refusal_low = tried_most 15 (input_tests m.registers m.target m.buffer m.used) tt

  after_allowed : (x : Verdict) → verdict m.expression ≡ x → steps_of (onward (moves m m.allowance) (after_verdict m x)) ≤ m.allowance
  unfolding steps_of
  after_allowed (accepted n g l) p =
      by_test (λ o. steps_of (onward (moves m m.allowance) o) ≤ m.allowance) (eqb (input_refusal m) 0) _ _
      (λ _. omega (arith, moves_allowed m m.allowance (begin m))) (λ _. zero-le)
  after_allowed (refused r) p = rw (refused_plain m.expression p) zero-le

  -- never more steps than the allowance
  pub steps_allowed : steps_of (ended m) ≤ m.allowance
  unfolding ended
  steps_allowed = after_allowed (verdict m.expression) refl

  module _ {n g l : ℕ} (p : verdict m.expression ≡ accepted n g l) where
    -- never more than the longest walk
    pub steps_longest : steps_of (ended m) ≤ l
    unfolding ended steps_of
    steps_longest =
        rw p (by_test (λ o. steps_of (onward (moves m m.allowance) o) ≤ l) (eqb (input_refusal m) 0) _ _
        (λ _. let a = accepted_means m.expression p in moves_longest m a m.allowance (begin m) (walk_begins a)) (λ _. zero-le))

    -- an allowance of the longest walk is never spent
    pub allowance_enough : l ≤ m.allowance → number_of (ended m) ≢ 16
    unfolding ended number_of
    allowance_enough h =
        rw p (by_test (λ o. number_of (onward (moves m m.allowance) o) ≢ 16) (eqb (input_refusal m) 0) _ _
        (λ _. let a = accepted_means m.expression p in moves_enough m a m.allowance (begin m) (walk_begins a) (omega arith))
        (λ _. omega (arith, refusal_low)))

  -- so is one of as many steps as an expression may have bytes
  enough_by : (x : Verdict) → verdict m.expression ≡ x → 1024 ≤ m.allowance → number_of (ended m) ≢ 16
  unfolding number_of
  enough_by (accepted n g l) p h =
      let a = accepted_means m.expression p in
      allowance_enough p (omega (arith, longest_length m.expression a, a.acceptable.sized.short))
  enough_by (refused r) p h = rw (refused_early p) (omega (arith, refused_number m.expression p))

  pub bytes_enough : 1024 ≤ m.allowance → number_of (ended m) ≢ 16
  bytes_enough = enough_by (verdict m.expression) refl

  after_numbered : (x : Verdict) → verdict m.expression ≡ x → NumberedEnd (onward (moves m m.allowance) (after_verdict m x))
  after_numbered (accepted n g l) p =
      by_test (λ o. NumberedEnd (onward (moves m m.allowance) o)) (eqb (input_refusal m) 0) _ _
      (λ _. let a = accepted_means m.expression p in moves_numbered m a m.allowance (begin m) (walk_begins a))
      (λ t. (omega (arith, eqb-false (input_refusal m) 0 t), omega (arith, refusal_low)))
  after_numbered (refused r) p = let x = refused_number m.expression p in (x.0, omega (arith, x))

  ended_numbered : NumberedEnd (ended m)
  unfolding ended
  ended_numbered = after_numbered (verdict m.expression) refl

  pub stopped_number : {r : Refusal} {rs : List Record} → ended m ≡ stopped r rs → (1 ≤ r.number) × (r.number ≤ 21)
  stopped_number p = rw p at ended_numbered
