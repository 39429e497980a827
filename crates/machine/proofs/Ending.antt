-- An end, and the room that its trailer needs.
use mathlib.Core.Bool.{Bool, true, false, cond}
use mathlib.Core.List.{List, []}
use mathlib.Core.Path.{◌≡◌, refl, sym, ◌∙◌}
use Prim.Native.Nat.{ℕ, zero, suc, ◌+◌, ◌-◌, ◌≤◌}
use native.Mathlib.Omega.{arith}
use lib.ListN.{length}
use lib.Dec.{eqb, leb}
use borrow.Author.Tests.{eqb-true, leb-true}
use Rattle.sizes.specs.Sizes.{buffer_most}
use Rattle.refusals.proofs.Promises.{none_holds}
use Rattle.isa.specs.Classes.{Class, binary, trace, tracenz, unary, ref, trace_quick, ext, zero_ext_of, setv, if_goto, goto, constant, reg, getv, tracev, end, dup, pop, swap, pick, rot, unsupported, unknown, kind, kind_end}
use Rattle.isa.specs.Decode.{kind_at, class_at}
use Rattle.frames.specs.Record.{Record, encode_all}
use Rattle.frames.specs.Trailer.{trailer_size}
use Rattle.frames.proofs.Promises.{fit_lengths}
use Rattle.verdict.specs.Verdict.{Verdict, accepted, refused, verdict}
use Rattle.machine.specs.Given.{Given, Fixed, fixed_of, State, begin, free_of}
use Rattle.machine.specs.Meaning.{leaves, faults, end_done, done}
use Rattle.machine.specs.Machine.{Answer, Ended, completed, stopped, moved, onward, moves}
use Rattle.machine.specs.Run.{input_tests, input_refusal, after_verdict, stepped, ended}
use Rattle.machine.proofs.Cells.{by_test}
use Rattle.machine.proofs.Steps.{onward_by}

end_class : (c : Class) → kind c ≡ kind_end → c ≡ end
end_class binary p = absurd (omega arith)
end_class trace p = absurd (omega arith)
end_class tracenz p = absurd (omega arith)
end_class unary p = absurd (omega arith)
end_class (ref n) p = absurd (omega arith)
end_class (trace_quick n) p = absurd (omega arith)
end_class ext p = absurd (omega arith)
end_class zero_ext_of p = absurd (omega arith)
end_class setv p = absurd (omega arith)
end_class if_goto p = absurd (omega arith)
end_class goto p = absurd (omega arith)
end_class (constant n) p = absurd (omega arith)
end_class reg p = absurd (omega arith)
end_class getv p = absurd (omega arith)
end_class tracev p = absurd (omega arith)
end_class end p = refl
end_class dup p = absurd (omega arith)
end_class pop p = absurd (omega arith)
end_class swap p = absurd (omega arith)
end_class pick p = absurd (omega arith)
end_class rot p = absurd (omega arith)
end_class unsupported p = absurd (omega arith)
end_class unknown p = absurd (omega arith)

-- the instruction at an end needs room for the trailer
pub end_done_lem : (m : Fixed) (k : ℕ) (s v : List ℕ) (free : ℕ) → kind_at m.expression k ≡ kind_end → done m k s v free ≡ end_done free
unfolding done
end_done_lem m k s v free h = rw (end_class (class_at m.expression k) h) refl

end_fits : (b : Bool) {cells : List ℕ} {rs : List Record} → cond b (leaves [] []) (faults 21) ≡ leaves cells rs → b ≡ true
end_fits true p = refl
end_fits false p = absurd (let z : ◌≡◌ {A = ℕ} 0 1 = cc in omega arith)

pub end_room : {free : ℕ} {cells : List ℕ} {rs : List Record} → end_done free ≡ leaves cells rs → trailer_size ≤ free
unfolding end_done
end_room {free} p = leb-true trailer_size free (end_fits (leb trailer_size free) p)

-- ---- a run that completed has room for its records and the trailer
abbrev HasRoom : ℕ → Ended → Type 0
HasRoom room (completed a n v rs) = length (encode_all rs) + trailer_size ≤ room
HasRoom room (stopped r rs) = Unit {0}

moves_room : (m : Given) (left : ℕ) (st : State) → HasRoom (length m.buffer - m.used) (moves m left st)
unfolding moves
moves_room m zero st = tt
moves_room m (suc left) st =
    let free = free_of m st in
    onward_by m (moves m left) st (HasRoom (length m.buffer - m.used)) (done (fixed_of m) st.offset st.stack st.variables free)
    (λ cells rs p h. let k = end_room {free = free} (sym (end_done_lem (fixed_of m) st.offset st.stack st.variables free h) ∙ p) in omega arith)
    (λ cells rs p h. moves_room m left (moved m st cells rs)) (λ n p. tt)

module _ (m : Given) where
  pub lengths_fine : input_refusal m ≡ 0 → (length m.buffer ≤ buffer_most) × (m.used ≤ length m.buffer)
  unfolding input_refusal
  lengths_fine h = fit_lengths m.buffer m.used (none_holds (input_tests m.registers m.target m.buffer m.used) tt h).1.1.1.1.0

  abbrev InBuffer : Ended → Type 0
  InBuffer (completed a n w rs) = (m.used + (length (encode_all rs) + trailer_size) ≤ length m.buffer) × (length m.buffer ≤ buffer_most)
  InBuffer (stopped r rs) = Unit {0}

  in_buffer : (o : Ended) → length m.buffer ≤ buffer_most → m.used ≤ length m.buffer → HasRoom (length m.buffer - m.used) o → InBuffer o
  in_buffer (completed a n w rs) h k f = (omega arith, h)
  in_buffer (stopped r rs) h j f = tt

  after_fits : (x : Verdict) → InBuffer (onward (moves m m.allowance) (after_verdict m x))
  after_fits (accepted n g l) =
      by_test (λ o. InBuffer (onward (moves m m.allowance) o)) (eqb (input_refusal m) 0) _ _
      (λ t. let w = lengths_fine (eqb-true _ _ t) in
      in_buffer (stepped m) w.0 w.1 (moves_room m m.allowance (begin m)))
      (λ _. tt)
  after_fits (refused r) = tt

  ended_fits : InBuffer (ended m)
  unfolding ended
  ended_fits = after_fits (verdict m.expression)

  pub completed_fits : (a : Answer) {n : ℕ} (w : List ℕ) (rs : List Record) → ended m ≡ completed a n w rs
      → (m.used + (length (encode_all rs) + trailer_size) ≤ length m.buffer) × (length m.buffer ≤ buffer_most)
  completed_fits a w rs e = rw e at ended_fits
