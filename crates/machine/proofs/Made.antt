-- A property of every record that a run makes, by one induction over its moves.
use mathlib.Core.List.{List, [], ◌∷◌, ◌++◌}
use mathlib.Core.Logic.{◌≢◌}
use mathlib.Core.Path.{◌≡◌, refl}
use Prim.Native.Nat.{ℕ, zero, suc, ◌≤◌, min}
use native.Mathlib.Omega.{arith}
use lib.ListN.{length, get_or, take}
use lib.Dec.{eqb, leb, ltb}
use borrow.Author.Tests.{eqb-true, eqb-false, ltb-false}
use Rattle.refusals.proofs.Promises.{none_holds}
use Rattle.isa.specs.Classes.{Class, binary, trace, tracenz, unary, ref, trace_quick, ext, zero_ext_of, setv, if_goto, goto, constant, reg, getv, tracev, end, dup, pop, swap, pick, rot, unsupported, unknown, kind_end}
use Rattle.isa.specs.Decode.{class_at, kind_at, operand}
use Rattle.memory.specs.Spans.{Target, spans_refusal}
use Rattle.memory.specs.Fetch.{readable, fetch_refusal, fetched, rest_of}
use Rattle.memory.specs.FirstZero.{Sought, up_to_zero, all_of_size, cut_short, searched}
use Rattle.memory.proofs.Promises.{readable_means, fetch_0, fetched_length, fetched_part, rest_readable, rest_fetched, search_found, search_reached}
use Rattle.frames.specs.Record.{Record, memory, variable, encode}
use Rattle.frames.specs.Trailer.{trailer_size}
use Rattle.verdict.specs.Verdict.{Verdict, accepted, refused, verdict}
use Rattle.verdict.specs.Acceptance.{Accepted, Means}
use Rattle.verdict.proofs.Promises.{means}
use Rattle.machine.specs.Given.{Given, Fixed, fixed_of, State, begin, free_of}
use Rattle.machine.specs.Words.{zero_divisor}
use Rattle.machine.specs.Recording.{Made, made, refuses, fitting, range_made, zero_made, to_zero_made}
use Rattle.machine.specs.Meaning.{Done, leaves, faults, recording, binary_done, ref_done, reg_done, end_done, meaning, done}
use Rattle.machine.specs.Machine.{moved, onward, moves}
use Rattle.machine.specs.Run.{input_tests, input_refusal, after_verdict, ended}
use Rattle.machine.specs.Recorded.{FromTarget, records_of}
use Rattle.machine.proofs.Cells.{by_test}
use Rattle.machine.proofs.Steps.{onward_by}

-- ---- every record of a list has the property P
abbrev pub All : (Record → Type 0) → List Record → Type 0
All P [] = Unit {0}
All P (r ∷ rs) = P r × All P rs

-- what is told of lists one record at a time
all_as : (P : Record → Type 0) (Q : List Record → Type 0) → Q [] → ((r : Record) (rs : List Record) → P r → Q rs → Q (r ∷ rs)) → (rs : List Record) → All P rs → Q rs
all_as P Q none more [] p = none
all_as P Q none more (r ∷ rs) p = more r rs p.0 (all_as P Q none more rs p.1)

all_append : (P : Record → Type 0) (rs ts : List Record) → All P rs → All P ts → All P (rs ++ ts)
all_append P [] ts p q = q
all_append P (r ∷ rs) ts p q = (p.0, all_append P rs ts p.1 q)

-- ---- the records made by one instruction
MadeAll : (Record → Type 0) → Made → Type 0
MadeAll P (made rs) = All P rs
MadeAll P (refuses n) = Unit {0}

abbrev DoneAll : (Record → Type 0) → Done → Type 0
DoneAll P (leaves cells rs) = All P rs
DoneAll P (faults n) = Unit {0}

fitting_all : (P : Record → Type 0) (free : ℕ) (r : Record) → P r → MadeAll P (fitting free r)
unfolding MadeAll fitting
fitting_all P free r p = by_test (MadeAll P) (leb (length (encode r)) free) _ _ (λ _. (p, tt)) (λ _. tt)

recording_all : (P : Record → Type 0) (cells : List ℕ) (r : Made) → MadeAll P r → DoneAll P (recording cells r)
unfolding MadeAll
recording_all P cells (made rs) p = p
recording_all P cells (refuses n) p = tt

-- ---- what is asked of the property
-- it holds of a memory record that is from the target and has an allowed length
abbrev pub OfMemory : Target → (Record → Type 0) → Type 0
OfMemory t P = spans_refusal t ≡ 0 → (a : ℕ) (bytes : List ℕ) → FromTarget t (memory a bytes) → 1 ≤ length bytes → length bytes ≤ 65535 → P (memory a bytes)

-- it holds of the record that the instruction at k makes, if that is tracev
abbrev pub OfVariable : List ℕ → (Record → Type 0) → ℕ → List ℕ → Type 0
OfVariable e P k v = class_at e k ≡ tracev → P (variable (operand e k) (get_or v (operand e k) 0))

-- a fact of the state that holds at the beginning, that every move keeps, and that is enough for tracev
pub record Keeps (m : Given) (P : Record → Type 0) (Fact : State → Type 0) : Type 0 where
  pub first : Fact (begin m)
  pub of_variable : (st : State) → Fact st → OfVariable m.expression P st.offset st.variables
  pub kept : (st : State) → Fact st → (cells : List ℕ) (rs : List Record)
      → done (fixed_of m) st.offset st.stack st.variables (free_of m st) ≡ leaves cells rs
      → kind_at m.expression st.offset ≢ kind_end → Fact (moved m st cells rs)

module _ (m : Fixed) (fine : spans_refusal m.target ≡ 0) (P : Record → Type 0) (of-memory : OfMemory m.target P) where
  -- a fetch that is not refused lends bytes of one span
  fetched_has : (a k : ℕ) → 1 ≤ k → k ≤ 65535 → fetch_refusal m.target a k ≡ 0
      → P (memory a (fetched m.target a k))
  fetched_has a k s h z =
      let l = fetched_length m.target a k z in
      of-memory fine a _ (rw l (fetched_part m.target a k z s)) (omega (arith, l)) (omega (arith, l))

  -- and so do the first bytes from an address on
  rest_has : (a n : ℕ) → 1 ≤ n → n ≤ 65535 → n ≤ length (rest_of m.target a) → P (memory a (take n (rest_of m.target a)))
  rest_has a n s h l =
      rw (← (rest_fetched m.target fine a n l))
      (fetched_has a n s h ((fetch_0 m.target a n).1
      (fine, λ _. (rest_readable m.target fine a n s).1 l)))

  module _ (free address size : ℕ) where
    range_all : MadeAll P (range_made m.target free address size)
    unfolding MadeAll range_made
    range_all =
        by_test (MadeAll P) (eqb size 0) _ _ (λ _. tt) λ p.
        by_test (MadeAll P) (ltb 65535 size) _ _ (λ _. tt) λ q.
        by_test (MadeAll P) (readable m.target address size) _ _
        (λ t. let n = eqb-false size 0 p in
        fitting_all P free _ (fetched_has address size (omega arith) (ltb-false 65535 size q) ((fetch_0 m.target address size).1
        (fine, λ s. (readable_means m.target address size s).0 t))))
        (λ _. tt)

    module _ (some : 1 ≤ size) where
      zero_all : (o : Sought) → searched (min size 65535) (rest_of m.target address) ≡ o → MadeAll P (zero_made free address size (rest_of m.target address) o)
      unfolding MadeAll
      zero_all (up_to_zero n) p =
          let w = search_found (min size 65535) (rest_of m.target address) p in
          fitting_all P free _ (rest_has address n w.some (omega (arith, w.in_size)) w.in_bytes)
      zero_all (all_of_size n) p =
          let w = search_reached (min size 65535) (rest_of m.target address) p in
          by_test (MadeAll P) (leb size 65535) _ _
          (λ _. fitting_all P free _ (rest_has address n (omega (arith, w.all)) (omega (arith, w.all)) (omega (arith, w.all, w.exist)))) (λ _. tt)
      zero_all (cut_short n) p = tt

    to_zero_all : MadeAll P (to_zero_made m.target free address size)
    unfolding MadeAll to_zero_made
    to_zero_all = by_test (MadeAll P) (eqb size 0) _ _ (λ _. tt) (λ p. let n = eqb-false size 0 p in zero_all (omega arith) _ refl)

  -- ---- every class
  module _ (s v : List ℕ) (free op n : ℕ) where
    meaning_all : (c : Class) → (c ≡ tracev → P (variable n (get_or v n 0))) → DoneAll P (meaning m s v free op n c)
    unfolding binary_done ref_done reg_done end_done
    meaning_all binary h = by_test (DoneAll P) (zero_divisor op (get_or s 0 0)) _ _ (λ _. tt) (λ _. tt)
    meaning_all trace h = recording_all P [] _ (range_all free _ _)
    meaning_all tracenz h = recording_all P [] _ (to_zero_all free _ _)
    meaning_all unary h = tt
    meaning_all (ref k) h = by_test (DoneAll P) (readable m.target (get_or s 0 0) k) _ _ (λ _. tt) (λ _. tt)
    meaning_all (trace_quick k) h = recording_all P (get_or s 0 0 ∷ []) _ (range_all free _ _)
    meaning_all ext h = tt
    meaning_all zero_ext_of h = tt
    meaning_all setv h = tt
    meaning_all if_goto h = tt
    meaning_all goto h = tt
    meaning_all (constant k) h = tt
    meaning_all reg h = by_test (DoneAll P) (ltb n (length m.registers)) _ _ (λ _. tt) (λ _. tt)
    meaning_all getv h = tt
    meaning_all tracev h = recording_all P (get_or v n 0 ∷ []) _ (fitting_all P free _ (h refl))
    meaning_all end h = by_test (DoneAll P) (leb trailer_size free) _ _ (λ _. tt) (λ _. tt)
    meaning_all dup h = tt
    meaning_all pop h = tt
    meaning_all swap h = tt
    meaning_all pick h = tt
    meaning_all rot h = tt
    meaning_all unsupported h = tt
    meaning_all unknown h = tt

  done_all : (k : ℕ) (s v : List ℕ) (free : ℕ) → OfVariable m.expression P k v → DoneAll P (done m k s v free)
  unfolding done
  done_all k s v free h = meaning_all s v free (get_or m.expression k 0) (operand m.expression k) (class_at m.expression k) h

-- ---- moves
module _ (m : Given) (fine : spans_refusal m.target ≡ 0) (P : Record → Type 0) (of-memory : OfMemory m.target P) (Fact : State → Type 0) (keeps : Keeps m P Fact) where
  moves_all : (left : ℕ) (st : State) → Fact st → All P st.records → All P (records_of (moves m left st))
  unfolding moves records_of
  moves_all zero st f p = p
  moves_all (suc left) st f p =
      let free = free_of m st in
      onward_by m (moves m left) st (λ o. All P (records_of o)) (done (fixed_of m) st.offset st.stack st.variables free) (λ _ _ _ _. p)
      (λ cells rs e h. moves_all left (moved m st cells rs) (keeps.kept st f cells rs e h)
      (all_append P st.records rs p (rw e at (done_all (fixed_of m) fine P of-memory st.offset st.stack st.variables free (keeps.of_variable st f)))))
      (λ _ _. p)

-- ---- whole runs
-- inputs that are not refused have spans that are not
pub spans_fine : (m : Given) → input_refusal m ≡ 0 → spans_refusal m.target ≡ 0
unfolding input_refusal spans_refusal
spans_fine m h = let w = none_holds (input_tests m.registers m.target m.buffer m.used) tt h in rw (w.0, w.1.0, w.1.1.0)

module _ (m : Given) (P : Record → Type 0) (of-memory : OfMemory m.target P) (Fact : State → Type 0)
    (keeps : (n g l : ℕ) → Accepted m.expression n g l → Keeps m P Fact) where
  after_all : (x : Verdict) → Means m.expression x → All P (records_of (onward (moves m m.allowance) (after_verdict m x)))
  unfolding records_of
  after_all (accepted n g l) a =
      by_test (λ o. All P (records_of (onward (moves m m.allowance) o))) (eqb (input_refusal m) 0) _ _
      (λ t. moves_all m (spans_fine m (eqb-true _ _ t)) P of-memory Fact (keeps n g l a) m.allowance (begin m) (keeps n g l a).first tt) (λ _. tt)
  after_all (refused r) _ = tt

  -- every record of a run has the property, however the run ended: Q tells it of all of them
  pub records_all : (Q : List Record → Type 0) → Q [] → ((r : Record) (rs : List Record) → P r → Q rs → Q (r ∷ rs)) → Q (records_of (ended m))
  unfolding ended
  records_all Q none more = all_as P Q none more (records_of (ended m)) (after_all (verdict m.expression) (means m.expression))
