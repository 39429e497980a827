-- The contract, where it is known what the instruction does.
use mathlib.Core.List.{List, [], ◌∷◌, ◌++◌}
use mathlib.Core.Path.{◌≡◌, refl, sym, ◌∙◌}
use Prim.Native.Nat.{ℕ, ◌+◌, ◌-◌}
use native.Mathlib.Nat.{add-zero}
use native.Mathlib.Omega.{arith}
use lib.ListN.{length, get_or, drop}
use Rattle.std.specs.Prelude.{Ok, Err}
use Rattle.refusals.specs.Numbers.{number_of}
use Rattle.refusals.specs.declared.Reason.{Reason}
use Rattle.refusals.proofs.Promises.{number_some}
use Rattle.sizes.specs.Sizes.{stack_cells}
use Rattle.encoding.proofs.Promises.{written_nothing}
use Rattle.isa.specs.Classes.{Class, row}
use Rattle.isa.specs.Decode.{next}
use Rattle.isa.specs.Joining.Held.{held}
use Rattle.frames.specs.Record.{encode_all}
use Rattle.machine.specs.Meaning.{Done, leaves, faults}
use Rattle.operations.specs.Joining.Here.{on_top, Here}
use Rattle.operations.specs.Joining.Did.{DidCells, PutWord}
use Rattle.operations.specs.declared.Place.{Place}
use Rattle.operations.proofs.Placing.{offset_by, offset_here, stack_here, next_here}

module _ {code : List ℕ} {p : Place} {s : List ℕ} {d : Done} {a : List ℕ} (long : length a ≡ stack_cells) where
  -- it leaves cells, and goes where its class goes
  pub did_cells : {q : Place} {a₀ : List ℕ} {c : Class} {op h : ℕ} → q.put ≡ p.put → Here code a₀ c op p.at h → {cells : List ℕ} → d ≡ leaves cells []
      → q.at ≡ offset_by c code p.at s → held a q.height ≡ cells ++ drop (get_or (row c) 1 0 + on_top c code p.at) s → DidCells code p s d (Ok q) a
  unfolding encode_all
  did_cells put here {cells} e u w = λ b l. rw e (record {
    stop = refl;
    at = u ∙ sym (offset_here here s);
    stack = w ∙ sym (stack_here here s cells);
    put = rw add-zero put;
    buffer = sym (written_nothing b p.put);
    room = omega (arith, put);
    long = long;
    some = tt;
  })

  -- it is refused
  pub did_refused : {x : Reason} → d ≡ faults (number_of x) → held a p.height ≡ s → DidCells code p s d (Err x) a
  unfolding encode_all
  did_refused {x} e w = λ b l. rw e (record {
    stop = refl;
    at = refl;
    stack = w;
    put = sym (add-zero p.put);
    buffer = sym (written_nothing b p.put);
    room = l;
    long = long;
    some = omega (arith, number_some x);
  })

-- ---- one word in the place of the cells needed
module _ {code a₀ : List ℕ} {c : Class} {op h : ℕ} {p q : Place} (here : Here code a₀ c op p.at h) {s a : List ℕ} {w : ℕ} (r : PutWord op w p s q a) where
  pub word_height : q.height ≡ p.height - get_or (row c) 1 0 + 1
  word_height = rw here.class_is at r.height

  pub word_stack : held a q.height ≡ w ∷ drop (get_or (row c) 1 0) s
  word_stack = rw here.class_is at r.stack

  pub word_next : q.at ≡ next code p.at
  word_next = next_here here r.at

  -- it is all that the instruction leaves
  pub did_word : offset_by c code p.at s ≡ next code p.at → on_top c code p.at ≡ 0 → {d : Done} → d ≡ leaves (w ∷ []) [] → DidCells code p s d (Ok q) a
  did_word goes none e = did_cells r.long r.put here e (word_next ∙ sym goes) (rw (none, add-zero) word_stack)
