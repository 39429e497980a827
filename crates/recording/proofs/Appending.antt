-- What a writer's answer says of the records, and the step from there to the instruction's answer.
use mathlib.Core.Bool.{true}
use mathlib.Core.List.{List, [], ◌++◌, append-nil}
use mathlib.Core.Path.{◌≡◌, refl, sym, ◌∙◌}
use Prim.Native.Nat.{ℕ, ◌+◌, ◌-◌, ◌^◌, ◌≤◌, ◌<◌}
use native.Mathlib.Nat.{add-zero}
use native.Mathlib.Omega.{arith}
use lib.ListN.{length, drop, get_or}
use borrow.Author.Tests.{le-leb, lt-leb}
use Rattle.std.specs.Prelude.{Option, Some, None, IfSome, MatchOption, Result, Ok, Err}
use Rattle.refusals.specs.Numbers.{number_of}
use Rattle.refusals.specs.declared.Reason.{Reason}
use Rattle.refusals.specs.declared.Reason.TheVariants.{BufferFull}
use Rattle.refusals.proofs.Promises.{number_some}
use Rattle.encoding.proofs.Promises.{written_nothing}
use Rattle.sizes.specs.Sizes.{stack_cells}
use Rattle.isa.specs.Classes.{Class, row}
use Rattle.isa.specs.Joining.Held.{held}
use Rattle.frames.specs.Record.{Record, encode, encode_all}
use Rattle.frames.specs.Writing.{encodable, written_record}
use Rattle.frames.specs.Joining.Answers.{Leaves}
use Rattle.frames.proofs.Promises.{wrote, full}
use Rattle.machine.specs.Recording.{Made, made, refuses, fitting}
use Rattle.machine.specs.Meaning.{recording}
use Rattle.operations.specs.Joining.Here.{on_top, Here}
use Rattle.operations.specs.Joining.Did.{Did}
use Rattle.operations.specs.declared.Place.{Place}
use Rattle.operations.proofs.Promises.{offset_by, offset_here, stack_here}
use Rattle.recording.specs.Joining.DidMake.{DidMake}

-- ---- the same records in other words
pub made_as : {b : List ℕ} {p : ℕ} {m m' : Made} {r : Result ℕ Reason} {b' : List ℕ} → m ≡ m' → DidMake b p m' r b' → DidMake b p m r b'
made_as e k = rw e k

-- ---- nothing is written
module _ {b : List ℕ} {p : ℕ} {m : Made} where
  pub made_none : m ≡ made [] → p ≤ length b → DidMake b p m (Ok p) b
  unfolding encode_all
  made_none e h =
      rw e (record { stop = refl; put = sym (add-zero p); buffer = rw written_nothing refl; room = h; some = tt })

  pub made_refused : {x : Reason} → m ≡ refuses (number_of x) → p ≤ length b → DidMake b p m (Err x) b
  unfolding encode_all
  made_refused {x} e h =
      rw e (record { stop = refl; put = sym (add-zero p); buffer = rw written_nothing refl; room = h; some = omega (arith, number_some x) })

-- ---- one record, by the writer's answer
module _ (b : List ℕ) (p : ℕ) (e : Record) (h : p ≤ length b) (g : encodable e ≡ true) {b' : List ℕ} where
  pub one_in : (w : Option ℕ) → Leaves (written_record b p e) w b' → length b < 2 ^ 64 → IfSome w (λ k. p + k < 2 ^ 64)
  one_in None left short = tt
  one_in (Some k) left short = let f = wrote (encodable e) b p (encode e) left refl in omega (arith, f.fits, f.count)

  pub one_made : (w : Option ℕ) → Leaves (written_record b p e) w b' → {r : Result ℕ Reason} → MatchOption w (r ≡ Err BufferFull) (λ k. r ≡ Ok (p + k))
      → DidMake b p (fitting (length b - p) e) r b'
  unfolding fitting encode_all
  one_made None left q =
      let f = full (encodable e) b p (encode e) left refl in
      let t = lt-leb (length (encode e)) (length b - p) (omega (arith, f.0 g)) in
      rw (f.1, q) (made_refused (rw t) h)
  one_made (Some k) left q =
      let f = wrote (encodable e) b p (encode e) left refl in
      let t = le-leb (length (encode e)) (length b - p) (omega (arith, f.fits)) in
      rw (q, t) (record { stop = refl; put = rw (append-nil, ← f.count) refl; buffer = rw append-nil f.bytes; room = omega (arith, f.fits, f.count); some = tt })

-- ---- the instruction's answer
module _ {code : List ℕ} {p : Place} {s b : List ℕ} (cells : List ℕ) {a b' : List ℕ} where
  pub did_made : {q : Place} {a₀ : List ℕ} {c : Class} {op h : ℕ} → Here code a₀ c op p.at h → {u : ℕ} (m : Made) → DidMake b p.put m (Ok u) b' → q.put ≡ u
      → q.at ≡ offset_by c code p.at s → held a q.height ≡ cells ++ drop (get_or (row c) 1 0 + on_top c code p.at) s → length a ≡ stack_cells
      → Did code p s b (recording cells m) (Ok q) a b'
  did_made here (made rs) k hp ha hh hl = record {
    stop = refl;
    at = ha ∙ sym (offset_here here s);
    stack = hh ∙ sym (stack_here here s cells);
    put = hp ∙ k.put;
    buffer = k.buffer;
    room = omega (arith, hp, k.room);
    long = hl;
    some = tt;
  }
  did_made here (refuses n) k hp ha hh hl = absurd (omega (arith, k.some, k.stop))

  pub did_refused : {x : Reason} (m : Made) → DidMake b p.put m (Err x) b' → held a p.height ≡ s → length a ≡ stack_cells → Did code p s b (recording cells m) (Err x) a b'
  did_refused {x} (made rs) k hh hl = absurd (omega (arith, number_some x, k.stop))
  did_refused (refuses n) k hh hl = record {
    stop = k.stop;
    at = refl;
    stack = hh;
    put = k.put;
    buffer = k.buffer;
    room = k.room;
    long = hl;
    some = k.some;
  }
