-- The pass over straight code: from one start to the next, and where it stops.
use mathlib.Core.Bool.{Bool, true, false}
use mathlib.Core.List.{List, ◌∷◌}
use mathlib.Core.Path.{◌≡◌, refl, ap, sym, ◌∙◌}
use mathlib.Core.Logic.{◌≢◌}
use Prim.Native.Nat.{ℕ, suc, ◌+◌, ◌≤◌, ◌<◌, max}
use native.Mathlib.Nat.{zero-add}
use native.Mathlib.Omega.{arith}
use lib.ListN.{get_or, length}
use borrow.Author.Tests.{lt-leb}
use Rattle.isa.specs.Classes.{kind, setv, kind_goto, kind_end}
use Rattle.isa.specs.Decode.{class_at, kind_at, next, height_after}
use Rattle.isa.specs.Starts.{starts, starts_from, is_start}
use Rattle.isa.proofs.Promises.{from_next, start_in, start_zero, start_next, before_next}
use Rattle.verdict.specs.Pass1.{fault1}
use Rattle.verdict.specs.Pass2.{fault2}
use Rattle.verdict.specs.Verdict.{SetsNothing}
use Rattle.verdict.proofs.Deciding.{first_ok, f_other, off_other, fault_none}
use Rattle.passes.specs.Joining.Tables.{Unmeasured, Effected, ReachedStep, Turned}
use Rattle.passes.specs.Joining.Tables.{Carry}
use Rattle.passes.proofs.Promises.{brings_none, incoming_flow, stepped_on, turned_step, measuring_start, measuring_turn}
use Rattle.acceptor.specs.Joining.Instruction.{GoesOn, IsEnd}
use Rattle.acceptor.specs.Joining.StraightCode.{SetsNothingBefore, Following}
use Rattle.acceptor.specs.declared.effects.Onward.{Onward}
use Rattle.acceptor.specs.declared.Stop.{Stop}

-- ---- no setv
module _ (e : List ℕ) (k : ℕ) (s : is_start e k ≡ true) where
  -- x was told before the start k, y is told behind it
  pub quiet_next : {x y : Bool} → SetsNothingBefore e k x → (y ≡ false → (x ≡ false) × (class_at e k ≢ setv)) → SetsNothingBefore e (next e k) y
  quiet_next q f z = let g = f z in before_next e (λ (j : ℕ). class_at e j ≢ setv) k s (q g.0) g.1

  -- an end that is the last byte is no setv, so that no start is
  pub quiet_last : {x : Bool} → IsEnd e k → k + 1 ≡ length e → SetsNothingBefore e k x → x ≡ false → SetsNothing e
  quiet_last c last q z j t =
      quiet_next q (λ y. (y, λ w. absurd (omega (arith, c.kind_is, ap kind w)))) z j (omega (arith, c.next_is, start_in e j t)) t

-- ---- the loop
pub following_start : (e : List ℕ) → 0 < length e → length e ≤ 1024 → Following e (record { at = 0; height = 0; count = 0; greatest = 0; sets = false })
following_start e i l = record {
  short = l;
  inside = i;
  start = start_zero e i;
  few = omega arith;
  low = omega arith;
  same1 = refl;
  same2 = refl;
  count = zero-add (length (starts e));
  highest = omega arith;
  measuring = λ hs ds u _ d a. measuring_start e hs ds l d a u;
  quiet = λ _ j z. absurd (omega arith);
}

-- below the jumps and above them, nothing aims
pub no_jump_low : (e : List ℕ) (k : ℕ) → kind_at e k < kind_goto → fault2 e k ≡ 0
no_jump_low e k p = f_other e k (rw (lt-leb kind_goto (kind_at e k) p))

pub no_jump_end : (e : List ℕ) (k : ℕ) → kind_at e k ≡ kind_end → fault2 e k ≡ 0
no_jump_end e k p = f_other e k (rw p)

module _ {e : List ℕ} {s : Stop} (f : Following e s) where
  following_from : starts_from e s.at ≡ s.at ∷ starts_from e (next e s.at)
  following_from = from_next e s.at f.inside

  -- no jump has come: what flows in is all that comes
  flow_only : (hs ds : List ℕ) → Unmeasured e hs ds → s.height ≤ 64 → {t : Carry} {hs' ds' : List ℕ}
      → ReachedStep e s.at s.height s.count s.greatest 0 t hs ds hs' ds' → Turned e s.at hs ds s.height s.count s.greatest 0 t hs' ds'
  flow_only hs ds u low t =
      turned_step (incoming_flow (get_or hs s.at 0) (get_or ds s.at 0) s.height s.count (u.no_height s.at f.inside) (λ _. u.no_distance s.at) (omega arith)) (omega arith) t

  following_next : {r : Onward} → GoesOn e s.at s.height s.greatest r → next e s.at < length e → {y : Bool} → (y ≡ false → (s.sets ≡ false) × (class_at e s.at ≢ setv))
      → Following e (record { at = next e s.at; height = height_after e s.at s.height; count = s.count + 1; greatest = max s.greatest (height_after e s.at s.height); sets = y })
  following_next w i q =
      let k : ℕ = s.at in
      let h : ℕ = s.height in
      let g : ℕ = s.greatest in
      let n : ℕ = s.count in
      let ks : List ℕ = starts_from e (next e k) in
      let z : fault1 e k ≡ 0 = w.clear (omega arith) in
      record {
        short = f.short;
        inside = i;
        start = start_next e k f.start i;
        few = omega (arith, f.few);
        low = omega (arith, f.low, w.low, w.height_is);
        same1 = sym (first_ok (fault1 e) k ks z) ∙ rw following_from at f.same1;
        same2 = sym (first_ok (fault2 e) k ks (no_jump_low e k w.straight)) ∙ rw following_from at f.same2;
        count = let q : n + suc (length ks) ≡ length (starts e) = rw following_from at f.count in omega arith;
        highest = omega arith;
        measuring = λ hs ds u low d a.
            let t : Carry = record { fault = 0; height = height_after e k h; distance = n + 1; greatest = max g (height_after e k h); longest = 0 } in
            let c : Effected e k h n g 0 t = record {
              number = fault_none e k h (omega (arith, f.highest)) w.cells (omega arith)
                  (sym (off_other e k (next e k) (omega (arith, w.straight)) (omega (arith, w.straight)) refl) ∙ lt-leb (length e) (next e k) i);
              onward = λ _. record { height_is = refl; distance_is = refl; greatest_is = refl; longest_is = refl };
            } in
            measuring_turn (f.measuring hs ds u (omega arith) d a) f.inside
            (flow_only hs ds u (omega (arith, f.highest))
            (stepped_on e k h n g 0 (omega (arith, w.straight)) (omega (arith, w.straight)) c
            (brings_none e k h n t hs ds (omega (arith, w.straight)) (omega (arith, w.straight)))))
            refl;
        quiet = quiet_next e k f.start f.quiet q;
      }

  pub following_on : {r : Onward} → GoesOn e s.at s.height s.greatest r → r.at < length e → {y : Bool} → (y ≡ false → (s.sets ≡ false) × (class_at e s.at ≢ setv))
      → Following e (record { at = r.at; height = r.height; count = s.count + 1; greatest = r.greatest; sets = y })
  following_on w i q = rw (w.greatest_is, w.height_is, w.at_is) (following_next w (omega (arith, w.at_is)) q)

-- ---- the loop's invariant, and one turn of it
abbrev pub Looping : List ℕ → Stop → Type 0
Looping e s = (s.at < length e → Following e s) × (s.count ≤ s.at) × (s.height ≤ s.at) × (s.height ≤ s.greatest) × (s.at ≤ length e + 8)

pub looping_start : (e : List ℕ) → length e ≤ 1024 → Looping e (record { at = 0; height = 0; count = 0; greatest = 0; sets = false })
looping_start e l = ((λ i. following_start e i l), omega arith, omega arith, omega arith, omega arith)

pub looping_on : {e : List ℕ} {s : Stop} → Looping e s → s.at < length e → {r : Onward} → GoesOn e s.at s.height s.greatest r → {y : Bool}
    → (y ≡ false → (s.sets ≡ false) × (class_at e s.at ≢ setv)) → Looping e (record { at = r.at; height = r.height; count = s.count + 1; greatest = r.greatest; sets = y })
looping_on l i w q = (
  (λ j. following_on (l.0 i) w j q),
  omega (arith, w.at_is),
  omega (arith, w.at_is, w.low),
  omega (arith, w.height_is, w.greatest_is),
  omega (arith, w.near),
)
