-- Every record that a run makes is well formed: it can be encoded and read back. Cells and variables are words all
-- along.
use mathlib.Core.List.{List, [], ◌∷◌}
use mathlib.Core.Logic.{⊎_elim}
use mathlib.Core.Path.{◌≡◌, refl}
use Prim.Native.Nat.{ℕ, ◌+◌, ◌-◌, ◌^◌, ◌≤◌, ◌<◌}
use native.Mathlib.Nat.{pow-le-pow_right}
use native.Mathlib.Omega.{arith}
use lib.ListN.{length, get_or, take, drop, length-take}
use lib.Dec.{eqb, leb, ltb, lit<}
use Rattle.encoding.specs.LittleEndian.{little_endian}
use Rattle.encoding.specs.Ranges.{AllBytes, AllWords}
use Rattle.encoding.proofs.Promises.{below_cons, below_append, below_take, below_drop, below_set, little_below, big_below}
use Rattle.isa.specs.Classes.{Class, binary, trace, tracenz, unary, ref, trace_quick, ext, zero_ext_of, setv, if_goto, goto, constant, reg, getv, tracev, end, dup, pop, swap, pick, rot, unsupported, unknown, kind_ext}
use Rattle.isa.specs.Decode.{class_at, kind_at, operand_bytes, operand, needed}
use Rattle.isa.proofs.Promises.{operands_most, ref_most}
use Rattle.arithmetic.proofs.Promises as word
use Rattle.memory.specs.Spans.{Target}
use Rattle.memory.specs.Fetch.{holds_range, readable, fetch_refusal, fetched}
use Rattle.memory.proofs.Promises.{spans_0}
use Rattle.frames.specs.Record.{variable, WellFormed, AllWellFormed}
use Rattle.frames.specs.Trailer.{trailer_size, tag_of, TagFits}
use Rattle.verdict.specs.Acceptance.{Accepted}
use Rattle.machine.specs.Given.{Given, fixed_of, State, free_of}
use Rattle.machine.specs.Words.{binary_word, zero_divisor, unary_word}
use Rattle.machine.specs.Recording.{Made, made, refuses, fitting, range_made, to_zero_made}
use Rattle.machine.specs.Meaning.{Done, leaves, faults, recording, binary_done, ref_done, reg_done, end_done, meaning, done, stack_after, is_setv, variables_after}
use Rattle.machine.specs.Run.{ended}
use Rattle.machine.specs.Recorded.{records_of, Typed}
use Rattle.machine.proofs.Cells.{by_test}
use Rattle.machine.proofs.Following.{OnWalk, walk_begins, walk_ready, walk_moves}
use Rattle.machine.proofs.Made.{OfMemory, Keeps, records_all}

abbrev Word : ℕ → Type 0
Word x = x < 2 ^ 64

no_words : AllWords []
no_words i = omega arith

one_word : (x : ℕ) → Word x → AllWords (x ∷ [])
one_word x h = below_cons (2 ^ 64) x [] h no_words

-- ---- the words that an instruction leaves
binary_word_lem : (op a b : ℕ) → Word a → Word b → Word (binary_word op a b)
unfolding binary_word
binary_word_lem op a b h t =
    by_test Word (eqb op 0x02) _ _ (λ _. word.add_below a b) λ _.
    by_test Word (eqb op 0x03) _ _ (λ _. word.sub_below a b) λ _.
    by_test Word (eqb op 0x04) _ _ (λ _. word.mul_below a b) λ _.
    by_test Word (eqb op 0x05) _ _ (λ _. word.div_signed_below a b h) λ _.
    by_test Word (eqb op 0x06) _ _ (λ _. word.div_unsigned_below a b h) λ _.
    by_test Word (eqb op 0x07) _ _ (λ _. word.rem_signed_below a b h) λ _.
    by_test Word (eqb op 0x08) _ _ (λ _. word.rem_unsigned_below a b h) λ _.
    by_test Word (eqb op 0x09) _ _ (λ _. word.lsh_below a b) λ _.
    by_test Word (eqb op 0x0a) _ _ (λ _. word.rsh_signed_below a b h) λ _.
    by_test Word (eqb op 0x0b) _ _ (λ _. word.rsh_unsigned_below a b h) λ _.
    by_test Word (eqb op 0x0f) _ _ (λ _. word.bit_and_below a b h) λ _.
    by_test Word (eqb op 0x10) _ _ (λ _. word.bit_or_below a b h t) λ _.
    by_test Word (eqb op 0x11) _ _ (λ _. word.bit_xor_below a b h t) λ _.
    by_test Word (eqb op 0x13) _ _ (λ _. omega (arith, word.equal_most a b)) λ _.
    by_test Word (eqb op 0x14) _ _ (λ _. omega (arith, word.less_signed_most a b)) λ _. omega (arith, word.less_unsigned_most a b)

unary_word_lem : (op a : ℕ) → Word (unary_word op a)
unfolding unary_word
unary_word_lem op a = by_test Word (eqb op 0x0e) _ _ (λ _. omega (arith, word.log_not_most a)) (λ _. word.bit_not_below a)

-- at most 8 bytes are a word
eight_bytes : (x n : ℕ) → x < 256 ^ n → n ≤ 8 → Word x
eight_bytes x n h t = let p : 256 ^ n ≤ 256 ^ 8 = pow-le-pow_right (lit< tt) t in omega arith

-- the cells left are words
abbrev LeavesWords : Done → Type 0
LeavesWords (leaves cells rs) = AllWords cells
LeavesWords (faults n) = Unit {0}

recording_words : (cells : List ℕ) (r : Made) → AllWords cells → LeavesWords (recording cells r)
recording_words cells (made rs) h = h
recording_words cells (refuses n) h = tt

-- at most n bytes
abbrev Few : ℕ → List ℕ → Type 0
Few n l = AllBytes l × (length l ≤ n)

part_few : (n i : ℕ) (l : List ℕ) → AllBytes l → Few n (take n (drop i l))
part_few n i l h = (below_take 256 n _ (below_drop 256 i l h), omega (arith, length-take n (drop i l)))

module _ {m : Given} (typed : Typed m) where
  operand_word : (k : ℕ) → Word (operand m.expression k)
  unfolding operand
  operand_word k =
      let e = m.expression in
      eight_bytes _ (operand_bytes e k) (big_below e (k + 1) (operand_bytes e k) typed.expression) (operands_most (get_or e k 0))

  -- a fetch of n bytes lends no more
  fetched_bytes : (a n : ℕ) → Few n (fetched m.target a n)
  unfolding fetched
  fetched_bytes a n =
      by_test (Few n) (eqb (fetch_refusal m.target a n) 0) _ _
      (λ _. by_test (Few n) (holds_range m.target.image a n) _ _ (λ _. part_few n (a - m.target.image.first) m.target.image.bytes typed.image)
      λ _. by_test (Few n) (holds_range m.target.work a n) _ _ (λ _. part_few n (a - m.target.work.first) m.target.work.bytes typed.work) (λ _. (λ _. omega arith, omega arith)))
      (λ _. (λ _. omega arith, omega arith))

  ref_word : (a n : ℕ) → n ≤ 8 → Word (little_endian (fetched m.target a n))
  ref_word a n h =
      let w = fetched_bytes a n in
      eight_bytes _ _ (little_below (fetched m.target a n) w.0) (omega (arith, w.1))

  module _ (k : ℕ) (s v : List ℕ) (free : ℕ) (cells : AllWords s) (values : AllWords v) (some : kind_at m.expression k ≡ kind_ext → 1 ≤ operand m.expression k) where
    meaning_words : (op : ℕ) (c : Class) → class_at m.expression k ≡ c → LeavesWords (meaning (fixed_of m) s v free op (operand m.expression k) c)
    unfolding binary_done ref_done reg_done end_done
    meaning_words op binary p = by_test LeavesWords (zero_divisor op (get_or s 0 0)) _ _ (λ _. tt) (λ _. one_word _ (binary_word_lem op _ _ (cells 1) (cells 0)))
    meaning_words op trace p = recording_words [] (range_made m.target free (get_or s 1 0) (get_or s 0 0)) no_words
    meaning_words op tracenz p = recording_words [] (to_zero_made m.target free (get_or s 1 0) (get_or s 0 0)) no_words
    meaning_words op unary p = one_word _ (unary_word_lem op _)
    meaning_words op (ref n) p =
        by_test LeavesWords (readable m.target (get_or s 0 0) n) _ _
        (λ _. one_word _ (ref_word (get_or s 0 0) n (ref_most (get_or m.expression k 0) n p))) (λ _. tt)
    meaning_words op (trace_quick n) p = recording_words (get_or s 0 0 ∷ []) (range_made m.target free (get_or s 0 0) (operand m.expression k)) (one_word _ (cells 0))
    meaning_words op ext p = one_word _ (word.ext_below _ _ (cells 0) (some (rw p)))
    meaning_words op zero_ext_of p = one_word _ (word.zero_ext_below _ _ (cells 0))
    meaning_words op setv p = one_word _ (cells 0)
    meaning_words op if_goto p = no_words
    meaning_words op goto p = no_words
    meaning_words op (constant n) p = one_word _ (operand_word k)
    meaning_words op reg p =
        by_test LeavesWords (ltb (operand m.expression k) (length m.registers)) _ _ (λ _. one_word _ (typed.registers (operand m.expression k))) (λ _. tt)
    meaning_words op getv p = one_word _ (values (operand m.expression k))
    meaning_words op tracev p =
        let x = get_or v (operand m.expression k) 0 in
        recording_words (x ∷ []) (fitting free (variable (operand m.expression k) x)) (one_word x (values (operand m.expression k)))
    meaning_words op end p = by_test LeavesWords (leb trailer_size free) _ _ (λ _. no_words) (λ _. tt)
    meaning_words op dup p = below_cons (2 ^ 64) _ (get_or s 0 0 ∷ []) (cells 0) (one_word _ (cells 0))
    meaning_words op pop p = no_words
    meaning_words op swap p = below_cons (2 ^ 64) _ (get_or s 0 0 ∷ []) (cells 1) (one_word _ (cells 0))
    meaning_words op pick p = below_cons (2 ^ 64) _ (take (operand m.expression k + 1) s) (cells (operand m.expression k)) (below_take (2 ^ 64) (operand m.expression k + 1) s cells)
    meaning_words op rot p = below_cons (2 ^ 64) _ (get_or s 2 0 ∷ get_or s 0 0 ∷ []) (cells 1) (below_cons (2 ^ 64) _ (get_or s 0 0 ∷ []) (cells 2) (one_word _ (cells 0)))
    meaning_words op unsupported p = tt
    meaning_words op unknown p = tt

    done_words : LeavesWords (done (fixed_of m) k s v free)
    unfolding done
    done_words = meaning_words (get_or m.expression k 0) (class_at m.expression k) refl

-- ---- moves
-- what each move keeps
record Running (m : Given) (st : State) : Type 0 where
  walk : OnWalk m.expression st.offset st.stack st.steps
  cells : AllWords st.stack
  values : AllWords st.variables

stack_words : (e : List ℕ) (k : ℕ) (s cells : List ℕ) → AllWords s → AllWords cells → AllWords (stack_after e k s cells)
unfolding stack_after
stack_words e k s cells h t = below_append (2 ^ 64) cells _ t (below_drop (2 ^ 64) (needed e k) s h)

variables_words : (e : List ℕ) (k : ℕ) (s v : List ℕ) → AllWords s → AllWords v → AllWords (variables_after e k s v)
unfolding variables_after
variables_words e k s v h t = by_test AllWords (is_setv (class_at e k)) _ _ (λ _. below_set (2 ^ 64) v (operand e k) _ (h 0) t) (λ _. t)

module _ {m : Given} (typed : Typed m) {n g l : ℕ} (a : Accepted m.expression n g l) where
  keeps : Keeps m WellFormed (Running m)
  keeps = record {
    first = record { walk = walk_begins a; cells = no_words; values = typed.variables };
    of_variable = λ st f p. record { number_fits = (walk_ready a f.walk).variable_low (rw p); value_fits = f.values (operand m.expression st.offset) };
    kept = λ st f cells rs e h. record {
      walk = walk_moves (fixed_of m) a f.walk st.variables _ e h;
      cells = stack_words m.expression st.offset st.stack cells f.cells
          (rw e at (done_words typed st.offset st.stack st.variables (free_of m st) f.cells f.values (walk_ready a f.walk).ext_some));
      values = variables_words m.expression st.offset st.stack st.variables f.cells f.values;
    };
  }

-- a memory record's address is in a span, and no span ends past 2^64
memory_well : (t : Target) → OfMemory t WellFormed
memory_well t fine a bytes from some most =
    let w = (spans_0 t).0 fine in
    record {
      address_fits = ⊎_elim (λ p. omega (arith, p.within 0 (omega arith), w.image_fits)) (λ p. omega (arith, p.within 0 (omega arith), w.work_fits)) from;
      some = some;
      most = most;
    }

-- ---- the tag of a frame fits its trailer
pub tag_fits : {g : Given} → Typed g → TagFits (tag_of g.tracepoint)
tag_fits typed = record { tracepoint_fits = omega (arith, typed.tracepoint) }

-- ---- whole runs
pub records_well_formed : {g : Given} → Typed g → AllWellFormed (records_of (ended g))
records_well_formed {g} typed =
    records_all g WellFormed (memory_well g.target) (Running g) (λ _ _ _ a. keeps typed a) AllWellFormed tt (λ _ _ p q. (p, q))
