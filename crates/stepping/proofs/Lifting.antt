-- From what a function of a class gives to what a step gives.
use mathlib.Core.Bool.{Bool, true, false, cond, ◌&&◌}
use mathlib.Core.List.{List, [], ◌∷◌}
use mathlib.Core.Logic.{◌≢◌, ⊎_elim}
use mathlib.Core.Path.{◌≡◌, refl, ap, sym, ◌∙◌}
use Prim.Native.Nat.{ℕ, ◌+◌, ◌-◌, ◌≤◌, ◌<◌}
use native.Mathlib.Nat.{add-zero}
use native.Mathlib.Omega.{arith}
use lib.ListN.{length, get_or, set}
use lib.Dec.{T, eqb, leb, leb→le}
use types.Run.{OneOf}
use borrow.Author.Tests.{ne_eqb}
use Rattle.logic.specs.Tests.{member}
use Rattle.logic.proofs.Promises.{and_left, and_right}
use Rattle.std.specs.Prelude.{Result, Ok, Err}
use Rattle.refusals.specs.Numbers.{buffer_full}
use Rattle.refusals.specs.declared.Reason.{Reason}
use Rattle.refusals.proofs.Promises.{number_some}
use Rattle.sizes.specs.Sizes.{stack_cells}
use Rattle.encoding.proofs.Promises.{written_nothing}
use Rattle.isa.specs.Classes.{Class, unsupported, unknown, opcodes, class_of, kind, kind_unsupported, kind_end}
use Rattle.isa.specs.Decode.{class_at, operand}
use Rattle.isa.specs.Joining.Held.{held}
use Rattle.isa.proofs.Promises.{known_low}
use Rattle.frames.specs.Record.{Record, encode_all}
use Rattle.frames.specs.Trailer.{trailer_size}
use Rattle.machine.specs.Given.{Fixed}
use Rattle.machine.specs.Meaning.{Done, leaves, faults, meaning, end_done, done, stack_after, is_setv, variables_after, offset_after}
use Rattle.operations.specs.declared.Place.{Place}
use Rattle.operations.specs.Joining.Did.{Did}
use Rattle.stepping.specs.Joining.Effect.{Effect, goes, completes, refuses, effect_of, effect, at_end, refused, came, came_by, place_after, effect_offset, effect_stack, effect_variables, effect_records, DidStep, DidEnd, on_of}
use Rattle.stepping.specs.declared.Stepped.{Stepped}
use Rattle.stepping.specs.declared.Stepped.TheVariants.{On, End}

module _ (m : Fixed) (p : Place) (s v : List ℕ) (free op : ℕ) (c : Class) (q : class_of op ≡ c) (f : get_or m.expression p.at 0 ≡ op) where
  class_at_lem : class_at m.expression p.at ≡ c
  class_at_lem = ap class_of f ∙ q

  done_at : done m p.at s v free ≡ meaning m s v free op (operand m.expression p.at) c
  unfolding done
  done_at = rw (f, q) refl

  -- an instruction that is no end and leaves cells goes on
  on_goes : eqb (kind c) kind_end ≡ false → (cells : List ℕ) (rs : List Record)
      → effect_of m.expression p.at s v (leaves cells rs) ≡ goes (offset_after m.expression p.at s) (stack_after m.expression p.at s cells) (variables_after m.expression p.at s v) rs
  on_goes z cells rs = rw (class_at_lem, z) refl

  same_variables : is_setv c ≡ false → variables_after m.expression p.at s v ≡ v
  unfolding variables_after
  same_variables z = rw (class_at_lem, z) refl

  set_variables : is_setv c ≡ true → variables_after m.expression p.at s v ≡ set v (operand m.expression p.at) (get_or s 0 0)
  unfolding variables_after
  set_variables z = rw (class_at_lem, z) refl

  module _ (z : eqb (kind c) kind_end ≡ false) {b : List ℕ} {a b' : List ℕ} where
    step_by : (d : Done) (r : Result Place Reason) {v' : List ℕ} → variables_after m.expression p.at s v ≡ v' → ((x : ℕ) → d ≡ faults x → v' ≡ v)
        → Did m.expression p s b d r a b' → DidStep p s v b (effect_of m.expression p.at s v d) (on_of r) a v' b'
    step_by (leaves cells rs) (Ok n) y u d = rw (on_goes z cells rs, y) (record {
      says = refl;
      at = d.at;
      stack = d.stack;
      put = d.put;
      variables = refl;
      buffer = d.buffer;
      room = d.room;
      long = d.long;
    })
    step_by (leaves cells rs) (Err x) y u d = absurd (omega (arith, d.stop, number_some x))
    step_by (faults x) (Ok n) y u d = absurd (omega (arith, d.stop, d.some))
    step_by (faults x) (Err n) y u d = record {
      says = ap refused d.stop;
      at = d.at;
      stack = d.stack;
      put = d.put;
      variables = u x refl;
      buffer = d.buffer;
      room = d.room;
      long = d.long;
    }

    module _ {w : Result Stepped Reason} {r : Result Place Reason} (e : w ≡ on_of r) where
      pub did_step : {d : Done} → is_setv c ≡ false → meaning m s v free op (operand m.expression p.at) c ≡ d → Did m.expression p s b d r a b'
          → DidStep p s v b (effect m p.at s v free) w a v b'
      unfolding effect
      did_step {d} y g u = rw (done_at ∙ g, e) (step_by d r (same_variables y) (λ x i. refl) u)

      pub did_set : {cells v' : List ℕ} → is_setv c ≡ true → meaning m s v free op (operand m.expression p.at) c ≡ leaves cells []
          → v' ≡ set v (operand m.expression p.at) (get_or s 0 0) → Did m.expression p s b (leaves cells []) r a b' → DidStep p s v b (effect m p.at s v free) w a v' b'
      unfolding effect
      did_set {cells} y g i u =
          rw (done_at ∙ g, e) (step_by (leaves cells []) r (set_variables y ∙ sym i) (λ x j. absurd (let n : ◌≡◌ {A = ℕ} 0 1 = cc in omega arith)) u)

  -- nothing moves
  still : (x : Effect) (r : Result Stepped Reason) → came_by r ≡ came x → place_after p r ≡ p → effect_offset p.at x ≡ p.at → effect_stack s x ≡ s → effect_variables v x ≡ v
      → effect_records x ≡ [] → {b a : List ℕ} → held a p.height ≡ s → p.put ≤ length b → length a ≡ stack_cells → DidStep p s v b x r a v b
  unfolding encode_all
  still x r e i o t y n {b} {a} h l g = record {
    says = e;
    at = rw i (sym o);
    stack = rw i (h ∙ sym t);
    put = rw (n, add-zero, i) refl;
    variables = sym y;
    buffer = rw n (sym (written_nothing b p.put));
    room = rw i l;
    long = g;
  }

  -- an end completes where the trailer fits
  ended_by : (x : Bool) (r : Result Stepped Reason) → eqb (kind c) kind_end ≡ true → {b a : List ℕ} → came_by r ≡ cond x at_end (refused buffer_full)
      → held a p.height ≡ s → p.put ≤ length b → length a ≡ stack_cells → DidStep p s v b (effect_of m.expression p.at s v (cond x (leaves [] []) (faults buffer_full))) r a v b
  ended_by true (Ok End) z e h l g = rw (class_at_lem, z) (still completes (Ok End) refl refl refl refl refl refl h l g)
  ended_by false (Err y) z e h l g = still (refuses buffer_full) (Err y) e refl refl refl refl refl h l g
  ended_by true (Ok (On n)) z e h l g = absurd cc
  ended_by true (Err y) z e h l g = absurd cc
  ended_by false (Ok (On n)) z e h l g = absurd cc
  ended_by false (Ok End) z e h l g = absurd cc

  pub did_end : eqb (kind c) kind_end ≡ true → meaning m s v free op (operand m.expression p.at) c ≡ end_done free → {r : Result Stepped Reason} {b a : List ℕ}
      → DidEnd free r → held a p.height ≡ s → p.put ≤ length b → length a ≡ stack_cells → DidStep p s v b (effect m p.at s v free) r a v b
  unfolding effect end_done
  did_end z g {r} e h l w = rw (done_at ∙ g) (ended_by (leb trailer_size free) r z e h l w)

-- ---- the key of an arm is its opcode and 0xc0
pub opcode_is : (k : ℕ) {op key : ℕ} → key ≡ op + 0xc0 → key ≡ k + 0xc0 → op ≡ k
opcode_is k e q = omega (arith, e, q)

away : {op key k : ℕ} → key ≡ op + 0xc0 → key ≢ k + 0xc0 → op ≢ k
away e n q = n (e ∙ ap (λ (x : ℕ). x + 0xc0) q)

-- ---- no supported opcode is left for the last arm
abbrev pub NoneOf44 : ℕ → Type 0
NoneOf44 key = ((((((((((((((((((((((((((((((((((((((((((((Unit {0} × (key ≢ 0xc2)) × (key ≢ 0xc3)) × (key ≢ 0xc4)) × (key ≢ 0xc5)) × (key ≢ 0xc6)) × (key ≢ 0xc7)) × (key ≢ 0xc8)) × (key ≢ 0xc9)) × (key ≢ 0xca)) × (key ≢ 0xcb)) × (key ≢ 0xcf)) × (key ≢ 0xd0)) × (key ≢ 0xd1)) × (key ≢ 0xd3)) × (key ≢ 0xd4)) × (key ≢ 0xd5)) × (key ≢ 0xcc)) × (key ≢ 0xef)) × (key ≢ 0xce)) × (key ≢ 0xd2)) × (key ≢ 0xd7)) × (key ≢ 0xd8)) × (key ≢ 0xd9)) × (key ≢ 0xda)) × (key ≢ 0xcd)) × (key ≢ 0xf0)) × (key ≢ 0xd6)) × (key ≢ 0xea)) × (key ≢ 0xed)) × (key ≢ 0xe0)) × (key ≢ 0xe1)) × (key ≢ 0xe2)) × (key ≢ 0xe3)) × (key ≢ 0xe4)) × (key ≢ 0xe5)) × (key ≢ 0xe6)) × (key ≢ 0xec)) × (key ≢ 0xee)) × (key ≢ 0xe7)) × (key ≢ 0xe8)) × (key ≢ 0xe9)) × (key ≢ 0xeb)) × (key ≢ 0xf2)) × (key ≢ 0xf3))

least : (b : Bool) → kind (cond b unsupported unknown) ≤ kind_unsupported
least true = omega arith
least false = omega arith

unsupported_else : (op : ℕ) {key : ℕ} → key ≡ op + 0xc0 → NoneOf44 key → kind (class_of op) ≤ kind_unsupported
unfolding class_of opcodes
unsupported_else op e h =
    rw (
      ne_eqb op 0x02 (away e h.0.0.0.0.0.0.0.0.0.0.0.0.0.0.0.0.0.0.0.0.0.0.0.0.0.0.0.0.0.0.0.0.0.0.0.0.0.0.0.0.0.0.0.1),
      ne_eqb op 0x03 (away e h.0.0.0.0.0.0.0.0.0.0.0.0.0.0.0.0.0.0.0.0.0.0.0.0.0.0.0.0.0.0.0.0.0.0.0.0.0.0.0.0.0.0.1),
      ne_eqb op 0x04 (away e h.0.0.0.0.0.0.0.0.0.0.0.0.0.0.0.0.0.0.0.0.0.0.0.0.0.0.0.0.0.0.0.0.0.0.0.0.0.0.0.0.0.1),
      ne_eqb op 0x05 (away e h.0.0.0.0.0.0.0.0.0.0.0.0.0.0.0.0.0.0.0.0.0.0.0.0.0.0.0.0.0.0.0.0.0.0.0.0.0.0.0.0.1),
      ne_eqb op 0x06 (away e h.0.0.0.0.0.0.0.0.0.0.0.0.0.0.0.0.0.0.0.0.0.0.0.0.0.0.0.0.0.0.0.0.0.0.0.0.0.0.0.1),
      ne_eqb op 0x07 (away e h.0.0.0.0.0.0.0.0.0.0.0.0.0.0.0.0.0.0.0.0.0.0.0.0.0.0.0.0.0.0.0.0.0.0.0.0.0.0.1),
      ne_eqb op 0x08 (away e h.0.0.0.0.0.0.0.0.0.0.0.0.0.0.0.0.0.0.0.0.0.0.0.0.0.0.0.0.0.0.0.0.0.0.0.0.0.1),
      ne_eqb op 0x09 (away e h.0.0.0.0.0.0.0.0.0.0.0.0.0.0.0.0.0.0.0.0.0.0.0.0.0.0.0.0.0.0.0.0.0.0.0.0.1),
      ne_eqb op 0x0a (away e h.0.0.0.0.0.0.0.0.0.0.0.0.0.0.0.0.0.0.0.0.0.0.0.0.0.0.0.0.0.0.0.0.0.0.0.1),
      ne_eqb op 0x0b (away e h.0.0.0.0.0.0.0.0.0.0.0.0.0.0.0.0.0.0.0.0.0.0.0.0.0.0.0.0.0.0.0.0.0.0.1),
      ne_eqb op 0x0f (away e h.0.0.0.0.0.0.0.0.0.0.0.0.0.0.0.0.0.0.0.0.0.0.0.0.0.0.0.0.0.0.0.0.0.1),
      ne_eqb op 0x10 (away e h.0.0.0.0.0.0.0.0.0.0.0.0.0.0.0.0.0.0.0.0.0.0.0.0.0.0.0.0.0.0.0.0.1),
      ne_eqb op 0x11 (away e h.0.0.0.0.0.0.0.0.0.0.0.0.0.0.0.0.0.0.0.0.0.0.0.0.0.0.0.0.0.0.0.1),
      ne_eqb op 0x13 (away e h.0.0.0.0.0.0.0.0.0.0.0.0.0.0.0.0.0.0.0.0.0.0.0.0.0.0.0.0.0.0.1),
      ne_eqb op 0x14 (away e h.0.0.0.0.0.0.0.0.0.0.0.0.0.0.0.0.0.0.0.0.0.0.0.0.0.0.0.0.0.1),
      ne_eqb op 0x15 (away e h.0.0.0.0.0.0.0.0.0.0.0.0.0.0.0.0.0.0.0.0.0.0.0.0.0.0.0.0.1),
      ne_eqb op 0x0c (away e h.0.0.0.0.0.0.0.0.0.0.0.0.0.0.0.0.0.0.0.0.0.0.0.0.0.0.0.1),
      ne_eqb op 0x2f (away e h.0.0.0.0.0.0.0.0.0.0.0.0.0.0.0.0.0.0.0.0.0.0.0.0.0.0.1),
      ne_eqb op 0x0e (away e h.0.0.0.0.0.0.0.0.0.0.0.0.0.0.0.0.0.0.0.0.0.0.0.0.0.1),
      ne_eqb op 0x12 (away e h.0.0.0.0.0.0.0.0.0.0.0.0.0.0.0.0.0.0.0.0.0.0.0.0.1),
      ne_eqb op 0x17 (away e h.0.0.0.0.0.0.0.0.0.0.0.0.0.0.0.0.0.0.0.0.0.0.0.1),
      ne_eqb op 0x18 (away e h.0.0.0.0.0.0.0.0.0.0.0.0.0.0.0.0.0.0.0.0.0.0.1),
      ne_eqb op 0x19 (away e h.0.0.0.0.0.0.0.0.0.0.0.0.0.0.0.0.0.0.0.0.0.1),
      ne_eqb op 0x1a (away e h.0.0.0.0.0.0.0.0.0.0.0.0.0.0.0.0.0.0.0.0.1),
      ne_eqb op 0x0d (away e h.0.0.0.0.0.0.0.0.0.0.0.0.0.0.0.0.0.0.0.1),
      ne_eqb op 0x30 (away e h.0.0.0.0.0.0.0.0.0.0.0.0.0.0.0.0.0.0.1),
      ne_eqb op 0x16 (away e h.0.0.0.0.0.0.0.0.0.0.0.0.0.0.0.0.0.1),
      ne_eqb op 0x2a (away e h.0.0.0.0.0.0.0.0.0.0.0.0.0.0.0.0.1),
      ne_eqb op 0x2d (away e h.0.0.0.0.0.0.0.0.0.0.0.0.0.0.0.1),
      ne_eqb op 0x20 (away e h.0.0.0.0.0.0.0.0.0.0.0.0.0.0.1),
      ne_eqb op 0x21 (away e h.0.0.0.0.0.0.0.0.0.0.0.0.0.1),
      ne_eqb op 0x22 (away e h.0.0.0.0.0.0.0.0.0.0.0.0.1),
      ne_eqb op 0x23 (away e h.0.0.0.0.0.0.0.0.0.0.0.1),
      ne_eqb op 0x24 (away e h.0.0.0.0.0.0.0.0.0.0.1),
      ne_eqb op 0x25 (away e h.0.0.0.0.0.0.0.0.0.1),
      ne_eqb op 0x26 (away e h.0.0.0.0.0.0.0.0.1),
      ne_eqb op 0x2c (away e h.0.0.0.0.0.0.0.1),
      ne_eqb op 0x2e (away e h.0.0.0.0.0.0.1),
      ne_eqb op 0x27 (away e h.0.0.0.0.0.1),
      ne_eqb op 0x28 (away e h.0.0.0.0.1),
      ne_eqb op 0x29 (away e h.0.0.0.1),
      ne_eqb op 0x2b (away e h.0.0.1),
      ne_eqb op 0x32 (away e h.0.1),
      ne_eqb op 0x33 (away e h.1),
    )
    (least (member op (0x01 ∷ 0x1b ∷ 0x1c ∷ 0x1d ∷ 0x1e ∷ 0x1f ∷ 0x34 ∷ [])))

pub none_left {ℓ} : {X : Type ℓ} (op : ℕ) {key : ℕ} → key ≡ op + 0xc0 → NoneOf44 key → kind_unsupported < kind (class_of op) → X
none_left op e h l = absurd (omega (arith, unsupported_else op e h))

-- none of these keys is that of a supported opcode
abbrev pub none_supported : List ℕ → Bool
none_supported [] = true
none_supported (k ∷ ks) = leb (kind (class_of (k - 0xc0))) kind_unsupported && none_supported ks

not_this {ℓ} : {X : Type ℓ} (op k : ℕ) {key : ℕ} → key ≡ op + 0xc0 → T (leb (kind (class_of (k - 0xc0))) kind_unsupported) → key ≡ k → kind_unsupported < kind (class_of op) → X
not_this op k e t q l =
    let is : op ≡ k - 0xc0 = omega (arith, e, q) in
    absurd (let z : kind_unsupported < kind (class_of (k - 0xc0)) = rw is at l in omega (arith, leb→le (kind (class_of (k - 0xc0))) kind_unsupported t))

pub not_these {ℓ} : {X : Type ℓ} (op k : ℕ) (ks : List ℕ) {key : ℕ} → key ≡ op + 0xc0 → T (none_supported (k ∷ ks)) → OneOf (k ∷ ks) key → kind_unsupported < kind (class_of op) → X
not_these op k [] e t q l = not_this op k e (and_left (leb (kind (class_of (k - 0xc0))) kind_unsupported) true t) q l
not_these op k (j ∷ ks) e t q l =
    ⊎_elim
    (λ p. not_this op k e (and_left (leb (kind (class_of (k - 0xc0))) kind_unsupported) (none_supported (j ∷ ks)) t) p l)
    (λ r. not_these op j ks e (and_right (leb (kind (class_of (k - 0xc0))) kind_unsupported) (none_supported (j ∷ ks)) t) r l)
    q

-- a supported opcode is below 64
pub supported_low : (op : ℕ) → kind_unsupported < kind (class_of op) → op < 64
supported_low op l = omega (arith, known_low op (omega arith))
