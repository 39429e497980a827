-- A loop of steps: after n of them the code holds what the machine holds after n moves.
use mathlib.Core.Bool.{Bool, true, false}
use mathlib.Core.List.{List, [], ◌++◌}
use mathlib.Core.Path.{◌≡◌, refl, ap, sym, ◌∙◌}
use Prim.Native.Nat.{ℕ, suc, ◌+◌, ◌-◌, ◌≤◌, ◌<◌}
use native.Mathlib.Omega.{arith}
use lib.ListN.{length, length-append}
use lib.Dec.{eqb}
use borrow.Author.Tests.{eqb-true, eqb-false}
use Rattle.encoding.specs.Written.{written_at}
use Rattle.encoding.proofs.Promises.{written_length, written_nothing, written_more}
use Rattle.isa.specs.Classes.{kind_end}
use Rattle.isa.specs.Decode.{kind_at}
use Rattle.isa.specs.Joining.Held.{held}
use Rattle.isa.proofs.Promises.{length_held, walk_last}
use Rattle.frames.specs.Record.{Record, encode_all}
use Rattle.frames.specs.Trailer.{trailer_size}
use Rattle.frames.proofs.Promises.{encode_all_append}
use Rattle.verdict.specs.Acceptance.{Accepted, Ready}
use Rattle.verdict.specs.Verdict.{SetsNothing}
use Rattle.std.specs.Prelude.{Ok, Err}
use Rattle.refusals.specs.Numbers.{number_of}
use Rattle.refusals.specs.declared.Reason.{Reason}
use Rattle.refusals.specs.Refusal.{refusal_after}
use Rattle.machine.specs.Given.{Given, fixed_of, State, begin}
use Rattle.machine.specs.Meaning.{Done, leaves, faults, done, stack_after, variables_after, offset_after}
use Rattle.machine.specs.Machine.{answer, completed, stopped, Standing, stands, over, moved_by}
use Rattle.machine.specs.Standing.{next, standing_from}
use Rattle.machine.proofs.Promises.{OnWalk, walk_begins, walk_ready, walk_moves, unset_variables, end_done_lem, end_room}
use Rattle.operations.specs.Joining.Here.{StepReady}
use Rattle.operations.specs.declared.Place.{Place}
use Rattle.stepping.specs.Joining.Effect.{Effect, goes, completes, refuses, effect_of, effect, DidStep}
use Rattle.stepping.specs.declared.Stepped.TheVariants.{On, End}

abbrev pub state : ℕ → List ℕ → List ℕ → List Record → ℕ → State
state k s v rs n = record { offset = k; stack = s; variables = v; records = rs; steps = n }

-- where one move leads, by its effect
abbrev pub stood : State → Effect → Standing
stood st (goes k s v rs) = stands (state k s v (st.records ++ rs) (st.steps + 1))
stood st completes = over (completed (answer st.stack) (st.steps + 1) st.variables st.records)
stood st (refuses n) = over (stopped (refusal_after n st.offset st.steps) st.records)

stood_by : (m : Given) (st : State) (d : Done) (b : Bool) → eqb (kind_at m.expression st.offset) kind_end ≡ b
    → moved_by m st d ≡ stood st (effect_of m.expression st.offset st.stack st.variables d)
stood_by m st (leaves cells rs) true q = rw (q, moved_by) refl
stood_by m st (leaves cells rs) false q = rw (q, moved_by) refl
stood_by m st (faults n) b q = refl

-- what the code holds: the variables v, buffer b, cells a, the place q, and n steps
pub record Loop (m : Given) (v b a : List ℕ) (q : Place) (n : ℕ) : Type 0 where
  pub records : List Record
  pub walk : OnWalk m.expression q.at (held a q.height) n
  pub same : standing_from m (stands (begin m)) n ≡ stands (state q.at (held a q.height) v records n)
  pub put : q.put ≡ m.used + length (encode_all records)
  pub room : q.put ≤ length m.buffer
  pub laid : b ≡ written_at m.buffer m.used (encode_all records)
  pub long : length a ≡ 64
  pub unset : SetsNothing m.expression → v ≡ m.variables

module _ {m : Given} {c₀ g₀ l₀ : ℕ} (acc : Accepted m.expression c₀ g₀ l₀) where
  pub loop_start : {a : List ℕ} {n : ℕ} → m.used ≤ length m.buffer → length a ≡ 64 → n ≡ 0 → Loop m m.variables m.buffer a (record { at = 0; height = 0; put = m.used }) n
  unfolding encode_all held standing_from
  loop_start hu l o = record {
    records = [];
    walk = rw o (walk_begins acc);
    same = rw o refl;
    put = omega arith;
    room = hu;
    laid = sym (written_nothing m.buffer m.used);
    long = l;
    unset = λ z. refl;
  }

module _ {m : Given} {v b a : List ℕ} {q : Place} {n : ℕ} (l : Loop m v b a q n) where
  pub as_long : length b ≡ length m.buffer
  as_long = ap length l.laid ∙ written_length m.buffer m.used (encode_all l.records)

  -- one move of the machine, with the code's own count of the free bytes
  pub followed : {e : Effect} → effect (fixed_of m) q.at (held a q.height) v (length b - q.put) ≡ e → standing_from m (stands (begin m)) (n + 1) ≡ stood (state q.at (held a q.height) v l.records n) e
  unfolding standing_from effect
  followed o =
      let i : n + 1 ≡ suc n = omega arith in
      let f : length m.buffer - m.used - length (encode_all l.records) ≡ length b - q.put = omega (arith, l.put, as_long) in
      rw i (ap (next m) l.same ∙ rw f (stood_by m (state q.at (held a q.height) v l.records n) (done (fixed_of m) q.at (held a q.height) v (length b - q.put)) (eqb (kind_at m.expression q.at) kind_end) refl))
      ∙ ap (stood (state q.at (held a q.height) v l.records n)) o

  -- where no instruction is a setv, what goes on has the same variables
  unset_at : SetsNothing m.expression → variables_after m.expression q.at (held a q.height) v ≡ v
  unset_at z = unset_variables m.expression q.at (held a q.height) v (z q.at (walk_last l.walk.walk))

  goes_unset : SetsNothing m.expression → (d : Done) (z : Bool) → eqb (kind_at m.expression q.at) kind_end ≡ z
      → {i : ℕ} {t w : List ℕ} {rs : List Record} → effect_of m.expression q.at (held a q.height) v d ≡ goes i t w rs → w ≡ v
  goes_unset y (leaves cells qs) true z o = absurd (let x : ◌≡◌ {A = ℕ} 0 1 = cc (rw z at o) in omega arith)
  goes_unset y (leaves cells qs) false z {i} {t} {w} {rs} o =
      let o : goes (offset_after m.expression q.at (held a q.height)) (stack_after m.expression q.at (held a q.height) cells)
      (variables_after m.expression q.at (held a q.height) v) qs ≡ goes i t w rs = rw z at o in
      let ow : variables_after m.expression q.at (held a q.height) v ≡ w = cc in
      sym ow ∙ unset_at y
  goes_unset y (faults x) z e o = absurd (let x : ◌≡◌ {A = ℕ} 0 1 = cc in omega arith)

-- the steps done, where so many of the allowance are left
module _ {max left : ℕ} (some : 0 < left) (w : left ≤ max) where
  pub still_left : max - left < max
  still_left = omega arith

  pub one_less : max - left + 1 ≡ max - (left - 1)
  one_less = omega arith

-- ---- what acceptance says where the loop stands
module _ {m : Given} {c₀ g₀ l₀ : ℕ} (acc : Accepted m.expression c₀ g₀ l₀) {v b a : List ℕ} {q : Place} {n : ℕ} (l : Loop m v b a q n) where
  at_hand : Ready m.expression q.at (length (held a q.height))
  at_hand = walk_ready acc l.walk

  pub step_ready : StepReady m.expression a q.at q.height
  step_ready = record { lent = record { short = acc.acceptable.sized.short; long = l.long }; ready = rw (length_held a q.height) at at_hand }

  pub inside : q.at < length m.expression
  inside = omega (arith, at_hand.inside)

  pub low : q.height ≤ 64
  low = omega (arith, at_hand.low, length_held a q.height)

  -- what went on stands on a walk again
  goes_walk : (d : Done) → done (fixed_of m) q.at (held a q.height) v (length b - q.put) ≡ d → (z : Bool) → eqb (kind_at m.expression q.at) kind_end ≡ z
      → {i : ℕ} {t w : List ℕ} {rs : List Record} → effect_of m.expression q.at (held a q.height) v d ≡ goes i t w rs → OnWalk m.expression i t (n + 1)
  goes_walk (leaves cells qs) e true z o = absurd (let y : ◌≡◌ {A = ℕ} 0 1 = cc (rw z at o) in omega arith)
  goes_walk (leaves cells qs) e false z {i} {t} {w} {rs} o =
      let o : goes (offset_after m.expression q.at (held a q.height)) (stack_after m.expression q.at (held a q.height) cells)
      (variables_after m.expression q.at (held a q.height) v) qs ≡ goes i t w rs = rw z at o in
      let oi : offset_after m.expression q.at (held a q.height) ≡ i = cc in
      let ot : stack_after m.expression q.at (held a q.height) cells ≡ t = cc in
      rw (oi, ot) at (walk_moves (fixed_of m) acc l.walk v (length b - q.put) e (eqb-false (kind_at m.expression q.at) kind_end z))
  goes_walk (faults x) e z y o = absurd (let y : ◌≡◌ {A = ℕ} 0 1 = cc in omega arith)

  -- what completes has room for the trailer
  completes_room : (d : Done) → done (fixed_of m) q.at (held a q.height) v (length b - q.put) ≡ d → (z : Bool) → eqb (kind_at m.expression q.at) kind_end ≡ z
      → effect_of m.expression q.at (held a q.height) v d ≡ completes → trailer_size ≤ length b - q.put
  completes_room (leaves cells qs) e true z o = end_room (sym (end_done_lem (fixed_of m) q.at (held a q.height) v (length b - q.put) (eqb-true (kind_at m.expression q.at) kind_end z)) ∙ e)
  completes_room (leaves cells qs) e false z o = absurd (let y : ◌≡◌ {A = ℕ} 0 1 = cc (rw z at o) in omega arith)
  completes_room (faults x) e z y o = absurd (let y : ◌≡◌ {A = ℕ} 0 1 = cc in omega arith)

-- ---- a turn, and each way out. The step left the cells c, the variables v' and the buffer b'.
-- at an end nothing moves, and there is room for the trailer
pub record AtEnd (m : Given) (q : Place) (n : ℕ) (rs : List Record) (v b c v' b' : List ℕ) : Type 0 where
  pub led : standing_from m (stands (begin m)) (n + 1) ≡ over (completed (answer (held c q.height)) (n + 1) v' rs)
  pub buffer : b' ≡ b
  pub variables : v' ≡ v
  pub long : length c ≡ 64
  pub room : q.put + trailer_size ≤ length m.buffer

-- and where it is refused
pub record AtRefusal (m : Given) (q : Place) (n : ℕ) (rs : List Record) (v b c v' b' : List ℕ) (x : Reason) : Type 0 where
  pub led : standing_from m (stands (begin m)) (n + 1) ≡ over (stopped (refusal_after (number_of x) q.at n) rs)
  pub buffer : b' ≡ b
  pub variables : v' ≡ v
  pub long : length c ≡ 64

abbrev done_here : Given → Place → List ℕ → List ℕ → List ℕ → Done
done_here m q v b a = done (fixed_of m) q.at (held a q.height) v (length b - q.put)

abbrev effect_here : Given → Place → List ℕ → List ℕ → List ℕ → Effect
effect_here m q v b a = effect (fixed_of m) q.at (held a q.height) v (length b - q.put)

module _ {m : Given} {c₀ g₀ l₀ : ℕ} (acc : Accepted m.expression c₀ g₀ l₀) {v b a : List ℕ} {q : Place} {n : ℕ} (l : Loop m v b a q n) {c v' b' : List ℕ} where
  turn_by : {w : Place} (e : Effect) → effect_here m q v b a ≡ e → DidStep q (held a q.height) v b e (Ok (On w)) c v' b' → Loop m v' b' c w (n + 1)
  unfolding effect
  turn_by (goes i t w rs) o d = record {
    records = l.records ++ rs;
    walk = rw (d.at, d.stack) (goes_walk acc l (done_here m q v b a) refl (eqb (kind_at m.expression q.at) kind_end) refl o);
    same = rw (d.at, d.stack, d.variables) (followed l o);
    put = omega (arith, d.put, l.put, ap length (encode_all_append l.records rs), length-append (encode_all l.records) (encode_all rs));
    room = omega (arith, d.room, as_long l);
    laid = d.buffer ∙ rw (l.laid, l.put, written_more) (ap (written_at m.buffer m.used) (sym (encode_all_append l.records rs)));
    long = d.long;
    unset = λ z. d.variables ∙ goes_unset l z (done_here m q v b a) (eqb (kind_at m.expression q.at) kind_end) refl o ∙ l.unset z;
  }
  turn_by completes o d = absurd (cc d.says)
  turn_by (refuses x) o d = absurd (cc d.says)

  ends_by : (e : Effect) → effect_here m q v b a ≡ e → DidStep q (held a q.height) v b e (Ok End) c v' b' → AtEnd m q n l.records v b c v' b'
  unfolding effect encode_all
  ends_by completes o d = record {
    led = rw (d.stack, d.variables) (followed l o);
    buffer = d.buffer ∙ written_nothing b q.put;
    variables = d.variables;
    long = d.long;
    room = omega (arith, as_long l, l.room, completes_room acc l (done_here m q v b a) refl (eqb (kind_at m.expression q.at) kind_end) refl o);
  }
  ends_by (goes i t w rs) o d = absurd (cc d.says)
  ends_by (refuses x) o d = absurd (cc d.says)

  halts_by : {x : Reason} (e : Effect) → effect_here m q v b a ≡ e → DidStep q (held a q.height) v b e (Err x) c v' b' → AtRefusal m q n l.records v b c v' b' x
  unfolding effect encode_all
  halts_by {x} (refuses y) o d = let z : number_of x ≡ y = cc d.says in record {
    led = rw z (followed l o);
    buffer = d.buffer ∙ written_nothing b q.put;
    variables = d.variables;
    long = d.long;
  }
  halts_by (goes i t w rs) o d = absurd (cc d.says)
  halts_by completes o d = absurd (cc d.says)

  pub turn : {w : Place} → DidStep q (held a q.height) v b (effect_here m q v b a) (Ok (On w)) c v' b' → Loop m v' b' c w (n + 1)
  turn = turn_by (effect_here m q v b a) refl

  pub ends : DidStep q (held a q.height) v b (effect_here m q v b a) (Ok End) c v' b' → AtEnd m q n l.records v b c v' b'
  ends = ends_by (effect_here m q v b a) refl

  pub halts : {x : Reason} → DidStep q (held a q.height) v b (effect_here m q v b a) (Err x) c v' b' → AtRefusal m q n l.records v b c v' b' x
  halts = halts_by (effect_here m q v b a) refl
