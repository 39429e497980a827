-- Each entry gives exactly the numbers that the table of refusals has for it.
use mathlib.Core.Bool.{Bool, true, false, cond, not, ◌&&◌, ◌||◌}
use mathlib.Core.List.{List, [], ◌∷◌, ◌++◌, map}
use mathlib.Core.Logic.{◌⊎◌, ◌↔◌, ◌≢◌, inl, inr, ⊎_elim}
use mathlib.Core.Path.{subst, ◌≡◌, refl, sym}
use Prim.Native.Nat.{ℕ}
use native.Mathlib.Omega.{arith}
use lib.Dec.{T, ltb, eqb}
use borrow.Author.Tests.{eqb-true, ne_eqb}
use Rattle.refusals.specs.Numbers.{range_not_readable}
use Rattle.refusals.specs.Tried.{tried}
use Rattle.encoding.specs.BigEndian.{big_endian}
use Rattle.encoding.specs.LittleEndian.{little_endian, little_bytes}
use Rattle.isa.specs.Classes.{opcodes, class_of}
use Rattle.isa.specs.Decode.{operand, picked, needed, left, height_after}
use Rattle.isa.specs.Starts.{starts_at_most, starts_from, is_start}
use Rattle.logic.specs.Tests.{member}
use Rattle.logic.proofs.Promises.{and_left, and_right, up_to_lem}
use Rattle.memory.specs.Spans.{ends_past, share_address, span_tests}
use Rattle.memory.specs.Fetch.{holds_range, readable, fetch_refusal}
use Rattle.frames.specs.Record.{encode, encode_all, decode_memory, decode_variable, decode}
use Rattle.frames.specs.Division.{divide_at_most, divide}
use Rattle.frames.specs.Trailer.{decode_trailer}
use Rattle.verdict.specs.Fault.{first}
use Rattle.verdict.specs.Pass1.{fault1}
use Rattle.verdict.specs.Pass2.{fault2}
use Rattle.verdict.specs.Pass3.{arrive, raise, at_target, at_next, runs_off_end, fault3, longer, heights_along, heights0, distances0, pass3}
use Rattle.verdict.specs.Verdict.{after1, after2, after3, verdict}
use Rattle.machine.specs.Words.{binary_word, zero_divisor}
use Rattle.machine.specs.Recording.{fitting, range_made}
use Rattle.machine.specs.Meaning.{binary_done, ref_done, reg_done, end_done, done, stack_after, variables_after, offset_after}
use Rattle.machine.specs.Machine.{moves}
use Rattle.machine.specs.Run.{input_refusal, ended, number_of as run_number}
use Rattle.machine.proofs.Promises as machine
use Rattle.reader.specs.Located.{frame_before, frame_back, located, walked}
use Rattle.reader.specs.Framed.{framed}
use Rattle.reader.specs.Read.{reading, counting}
use Rattle.reader.specs.NextRecord.{record_at, next_record}
use Rattle.lilivrez_verifier.specs.VerdictNumbers.{verdict_number as verify_number}
use Rattle.lilivrez_verifier.proofs.Promises as verifier
use Rattle.lilivrez_agent.proofs.Promises as agent
use Rattle.lilivrez_frames.specs.FrameValues.{read_number_of, count_number, locate_number, step_number}
use Rattle.lilivrez_frames.proofs.Promises as frames
use Rattle.demands.specs.Refusals.{Entry, verify, fetch, run, run_default, read, count, locate, walk, next_record_of, refusal_table, numbers_of, Inputs, number, by_default, typed, Gives}
use Rattle.demands.specs.Attained.{examples}

-- ---- none else
-- tests tried in order give one of their numbers, or 0
abbrev all_of : (ℕ → Bool) → List (Bool × ℕ) → Bool
all_of p [] = p 0
all_of p (t ∷ ts) = p t.1 && all_of p ts

first_of : (p : ℕ → Bool) (b : Bool) (n m : ℕ) → T (p n) → T (p m) → T (p (cond b n m))
first_of p true n m h k = h
first_of p false n m h k = k

tried_in : (p : ℕ → Bool) (ts : List (Bool × ℕ)) → T (all_of p ts) → T (p (tried ts))
tried_in p [] h = h
tried_in p (t ∷ ts) h = first_of p t.0 t.1 (tried ts) (and_left (p t.1) (all_of p ts) h) (tried_in p ts (and_right (p t.1) (all_of p ts) h))

not_that : (b : Bool) (r n : ℕ) → r ≢ n → T (eqb r n || b) → T b
not_that b r n h t = rw (ne_eqb r n h) at t

listed : (x : Entry) (i : Inputs x) → T (member (number x i) (0 ∷ numbers_of x))
unfolding refusal_table fetch_refusal
listed verify e = up_to_lem 12 (λ (r : ℕ). member r (0 ∷ numbers_of verify)) tt (number verify e) (omega (arith, verifier.number_most e))
listed fetch i =
    tried_in (λ (r : ℕ). member r (0 ∷ numbers_of fetch)) (span_tests i.0 ++ ((ltb 0 i.2 && not (readable i.0 i.1 i.2), range_not_readable) ∷ [])) tt
listed run i = up_to_lem 22 (λ (r : ℕ). member r (0 ∷ numbers_of run)) tt (number run i) (omega (arith, agent.number_most i))
listed run_default i =
    not_that (member (number run_default i) (0 ∷ numbers_of run_default)) (number run_default i) 16
    (machine.bytes_enough (by_default i) (omega arith))
    (up_to_lem 22 (λ (r : ℕ). eqb r 16 || member r (0 ∷ numbers_of run_default)) tt (number run_default i)
    (omega (arith, agent.number_most (by_default i))))
listed read i = frames.read_number i.0 i.1 i.2 i.3
listed count i = frames.count_number_lem i.0 i.1 i.2
listed locate i = frames.locate_number_lem i.0 i.1 i.2
listed walk i = frames.walk_number i.0 i.1
listed next_record_of i = frames.step_number_lem i.0 i.1 i.2

-- ---- each attained
abbrev all_typed : (x : Entry) → List (Inputs x) → Bool
all_typed x [] = true
all_typed x (i ∷ is) = typed x i && all_typed x is

either : (a b : Bool) → T (a || b) → (a ≡ true) ⊎ T b
either true b h = inl refl
either false b h = inr h

module _ (x : Entry) where
  found : (is : List (Inputs x)) → T (all_typed x is) → (r : ℕ) → T (member r (map (number x) is)) → Gives x r
  found [] t r h = absurd h
  found (i ∷ is) t r h =
      ⊎_elim (λ (p : eqb r (number x i) ≡ true). (i, and_left (typed x i) (all_typed x is) t, sym (eqb-true r (number x i) p)))
      (λ (p : T (member r (map (number x) is))). found is (and_right (typed x i) (all_typed x is) t) r p)
      (either (eqb r (number x i)) (member r (map (number x) is)) h)

-- the examples are inputs that can be lent, and give the numbers of the table in turn
examples_typed : (x : Entry) → T (all_typed x (examples x))
unfolding examples
examples_typed verify = tt
examples_typed fetch = tt
examples_typed run = tt
examples_typed run_default = tt
examples_typed read = tt
examples_typed count = tt
examples_typed locate = tt
examples_typed walk = tt
examples_typed next_record_of = tt

examples_give : (x : Entry) → map (number x) (examples x) ≡ 0 ∷ numbers_of x
unfolding examples refusal_table verify_number run_number ended input_refusal ends_past share_address verdict after1 after2 after3 pass3 heights0 distances0 heights_along longer fault3 runs_off_end at_next at_target raise arrive fault2 fault1 first is_start starts_from starts_at_most height_after left needed picked operand class_of opcodes big_endian moves done binary_done ref_done reg_done end_done stack_after variables_after offset_after binary_word zero_divisor range_made fitting holds_range readable fetch_refusal encode encode_all little_endian little_bytes read_number_of count_number locate_number step_number reading counting framed next_record record_at located walked frame_back frame_before decode_trailer divide divide_at_most decode decode_memory decode_variable
examples_give verify = refl
examples_give fetch = refl
examples_give run = refl
examples_give run_default = refl
examples_give read = refl
examples_give count = refl
examples_give locate = refl
examples_give walk = refl
examples_give next_record_of = refl

pub exact : (x : Entry) (r : ℕ) → Gives x r ↔ T (member r (0 ∷ numbers_of x))
exact x r = (λ g. subst (λ (n : ℕ). T (member n (0 ∷ numbers_of x))) g.2 (listed x g.0), λ t. found x (examples x) (examples_typed x) r (rw (examples_give x) t))
