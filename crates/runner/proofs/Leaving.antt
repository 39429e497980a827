-- The ways out of the loop of steps, and of a run: the machine ends as the run does.
use mathlib.Core.List.{List, ◌++◌}
use mathlib.Core.Path.{◌≡◌, refl, ap, sym, subst, ◌∙◌}
use Prim.Native.Nat.{ℕ, ◌+◌, ◌-◌, ◌≤◌, ◌<◌}
use native.Mathlib.Omega.{arith}
use lib.ListN.{length, length-append}
use Rattle.std.specs.Prelude.{Result, Ok, Err}
use Rattle.encoding.specs.Written.{written_at}
use Rattle.encoding.proofs.Promises.{written_more}
use Rattle.isa.specs.Joining.Held.{held}
use Rattle.frames.specs.Record.{encode_all}
use Rattle.frames.specs.Trailer.{trailer_size, tag_of, encode_trailer}
use Rattle.frames.specs.Frame.{encode_frame}
use Rattle.frames.proofs.Promises.{trailer_length}
use Rattle.verdict.specs.Acceptance.{Accepted}
use Rattle.verdict.specs.Verdict.{SetsNothing}
use Rattle.refusals.specs.declared.Refusal.{Refusal}
use Rattle.refusals.specs.declared.Reason.{Reason}
use Rattle.refusals.specs.Numbers.{number_of, allowance_spent}
use Rattle.refusals.specs.Refusal.{told, refusal_after}
use Rattle.machine.specs.Given.{Given, begin}
use Rattle.machine.specs.Machine.{answer, Ended, stopped, Standing, stands, over, onward, moves}
use Rattle.machine.specs.Run.{stepped, left_bytes, variables_of, used_of, buffer_of}
use Rattle.machine.specs.Standing.{standing_from}
use Rattle.machine.proofs.Promises.{moves_standing}
use Rattle.operations.specs.declared.Place.{Place}
use Rattle.stepping.proofs.Promises.{state, Loop, inside, low, AtEnd, AtRefusal}
use Rattle.runner.specs.Returned.{refused_with, returned, returned_by, answer_of}
use Rattle.runner.specs.Joining.Ends.{RanInPlace}
use Rattle.runner.specs.Joining.Going.{GoesOn, HasEnded, IsRefused}
use Rattle.runner.specs.declared.Value.{Value}
use Rattle.runner.specs.declared.Completed.{Completed}

-- ---- out of the loop
module _ {m : Given} {c₀ g₀ l₀ : ℕ} (acc : Accepted m.expression c₀ g₀ l₀) {v b a : List ℕ} {q : Place} {n : ℕ} (l : Loop m v b a q n) where
  pub goes_on : m.allowance ≡ n → GoesOn m q a v b
  goes_on h = record {
    records = l.records;
    moved = record { within = omega arith; same = subst (λ (k : ℕ). standing_from m (stands (begin m)) k ≡ stands (state q.at (held a q.height) v l.records k)) (sym h) l.same; laid = l.laid; long = l.long; unset = l.unset };
    inside = inside acc l;
    low = low acc l;
  }

  module _ (h : n < m.allowance) {c v' b' : List ℕ} where
    pub has_ended : AtEnd m q n l.records v b c v' b' → {k : ℕ} → k ≡ n + 1 → HasEnded m q k c v' b'
    has_ended e k = rw k (record {
      records = l.records;
      moved = record {
        within = omega arith;
        same = e.led;
        laid = e.buffer ∙ l.laid;
        long = e.long;
        unset = λ z. e.variables ∙ l.unset z;
      };
      put = l.put;
      room = e.room;
      low = low acc l;
    })

    pub is_refused : (y : Reason) → AtRefusal m q n l.records v b c v' b' y → {x : Refusal} → told x ≡ refusal_after (number_of y) q.at n → IsRefused m x c v' b'
    is_refused y e {x} k =
        let s : x.steps ≡ n = ap (λ t. t.steps) k in record {
          records = l.records;
          moved = record {
            within = omega arith;
            same = subst (λ (i : ℕ). standing_from m (stands (begin m)) (i + 1) ≡ over (stopped (told x) l.records)) (sym s) (e.led ∙ ap (λ t. over (stopped t l.records)) (sym k));
            laid = e.buffer ∙ l.laid;
            long = e.long;
            unset = λ z. e.variables ∙ l.unset z;
          };
        }

-- ---- out of a run
-- where the machine stands after n moves, the moves left go on
left_over : (m : Given) {s : Standing} (n : ℕ) → n ≤ m.allowance → standing_from m (stands (begin m)) n ≡ s → stepped m ≡ onward (moves m (m.allowance - n)) s
left_over m n h p = moves_standing m (stands (begin m)) n (m.allowance - n) (omega arith) ∙ ap (onward (moves m (m.allowance - n))) p

-- the moves ended as o
in_place : {m : Given} {o : Ended} {r : Result Completed Refusal} {v b : List ℕ} → stepped m ≡ o → returned_by r ≡ returned m o
    → ((c : Completed) → r ≡ Ok c → v ≡ variables_of m o) → (SetsNothing m.expression → v ≡ m.variables) → b ≡ buffer_of m o → RanInPlace m r v b
in_place p a s u b = record { answer = rw p a; set = λ c e. rw p (s c e); unset = u; buffer = rw p b }

module _ {m : Given} {v b a : List ℕ} where
  pub ended : {q : Place} {n : ℕ} → HasEnded m q n a v b → {x : List ℕ} {z : Value} → x ≡ written_at b q.put (encode_trailer (tag_of m.tracepoint) (q.put - m.used))
      → answer_of z ≡ answer (held a q.height) → RanInPlace m (Ok (record { value = z; steps = n; used = q.put + trailer_size })) v x
  unfolding encode_all encode_frame left_bytes returned used_of variables_of buffer_of
  ended {q} {n} e {x} {z} hx hz =
      let rs = e.records in
      let t = encode_trailer (tag_of m.tracepoint) (length (encode_all rs)) in
      let y : q.put - m.used ≡ length (encode_all rs) = omega (arith, e.put) in
      let w : q.put + trailer_size ≡ m.used + length (encode_all rs ++ t) =
      omega (arith, e.put, length-append (encode_all rs) t, trailer_length (tag_of m.tracepoint) (length (encode_all rs))) in
      in_place (left_over m n e.moved.within e.moved.same) (rw (hz, w) refl) (λ _ _. refl) e.moved.unset
      (hx ∙ rw (y, e.moved.laid, e.put, written_more) refl)

  pub refused : {x : Refusal} → IsRefused m x a v b → RanInPlace m (Err x) v b
  unfolding encode_all left_bytes returned variables_of buffer_of
  refused {x} e =
      in_place (left_over m (x.steps + 1) e.moved.within e.moved.same) refl (λ c z. absurd (let y : ◌≡◌ {A = ℕ} 0 1 = cc in omega arith)) e.moved.unset e.moved.laid

  pub spent : {q : Place} → GoesOn m q a v b → {x : Refusal} → told x ≡ refusal_after allowance_spent q.at m.allowance → RanInPlace m (Err x) v b
  unfolding moves left_bytes returned variables_of buffer_of
  spent e {x} h =
      let k : m.allowance - m.allowance ≡ 0 = omega arith in
      let o = rw k at (left_over m m.allowance e.moved.within e.moved.same) in
      in_place o (ap refused_with h) (λ c z. absurd (let y : ◌≡◌ {A = ℕ} 0 1 = cc in omega arith)) e.moved.unset e.moved.laid
