-- Pass 3 as the code runs it: one instruction case by case, what comes to a start, one start, and the loop.
use mathlib.Core.Bool.{Bool, true, false, cond}
use mathlib.Core.List.{List}
use mathlib.Core.Path.{◌≡◌, refl, ap, sym, ◌∙◌}
use mathlib.Core.Logic.{◌≢◌}
use Prim.Native.Nat.{ℕ, ◌+◌, ◌≤◌, ◌<◌, max}
use native.Mathlib.Omega.{arith}
use native.Mathlib.Decide.{ℕ_discrete}
use lib.ListN.{get_or, length, replicate, length-replicate, get_or-replicate}
use lib.Seq.{get_or-set_same, get_or-set_other}
use lib.Dec.{leb}
use borrow.Author.Tests.{eq-eqb, ne_eqb, le-leb, lt-leb}
use Rattle.logic.proofs.Promises.{cases}
use Rattle.refusals.specs.Refusal.{refusal}
use Rattle.isa.specs.declared.Kind.{Kind}
use Rattle.isa.specs.declared.Kind.TheVariants.{Unknown, Unsupported, Ext, Variable, Plain, Pick, Goto, IfGoto, End}
use Rattle.isa.specs.Joining.Rows.{kind_of}
use Rattle.isa.specs.Classes.{kind_pick, kind_goto, kind_if_goto, kind_end}
use Rattle.isa.specs.Decode.{kind_at, next, operand, height_after, jumps, continues}
use Rattle.isa.specs.Starts.{starts, starts_from}
use Rattle.isa.specs.Walk.{one}
use Rattle.isa.proofs.Promises.{known_low, from_end, from_next, start_in, start_next, start_zero}
use Rattle.verdict.specs.Pass1.{Decodes}
use Rattle.verdict.specs.Pass2.{Aims}
use Rattle.verdict.specs.Pass3.{unreached, joined, arrive, raise, at_target, at_next, pass_on, longer, runs_off_end, fault3, stopped, heights0, distances0, pass3}
use Rattle.verdict.specs.Verdict.{accepted, refused, after3}
use Rattle.passes.specs.Joining.Tables.{Carry, carried, FlowsFrom, Unmeasured, Passing, arrived, farther, Incoming, Halting, Effected, Brings, ReachedStep, Turned, AgreeFrom, Measuring}
use Rattle.std.specs.Prelude.{Ok}
use Rattle.std.proofs.Common.{◌⊎◌, inl, inr}
use Rattle.passes.specs.declared.pass3.Carry as code
use Rattle.passes.specs.declared.brought.Flow.{Flow}
use Rattle.verdict.proofs.Deciding.{decodes_fits, decodes_known, aims_target, along_nil, along_skip, along_pass, along_stop, fine, continues_true, joined_first, joined_same, joined_differing, longer_end, longer_other, AtCell, arrives, raises, if_length, if_kept, replicate_at, heights0_length, heights0_zero, heights0_other, distances0_length, distances0_at}

module _ (e : List ℕ) (k : ℕ) where
  -- ---- telling the target, at one table
  module _ (f : ℕ → List ℕ → List ℕ) (l : List ℕ) where
    target_none : kind_at e k ≢ kind_goto → kind_at e k ≢ kind_if_goto → l ≡ at_target e k f l
    unfolding at_target
    target_none p q =
        cases (kind_at e k) kind_goto (λ r. rw (lt-leb kind_goto (kind_at e k) r))
        (λ r. rw (le-leb kind_goto (kind_at e k) r, lt-leb (kind_at e k) kind_if_goto (omega arith)))

    pub target_other : jumps e k ≡ false → l ≡ at_target e k f l
    unfolding at_target
    target_other p = ap (λ (b : Bool). cond b (f (operand e k) l) l) (sym p)

    pub target_at : (m : ℕ) → m ≡ operand e k → jumps e k ≡ true → f m l ≡ at_target e k f l
    unfolding at_target
    target_at m q p = ap (λ (x : ℕ). f x l) q ∙ ap (λ (b : Bool). cond b (f (operand e k) l) l) (sym p)

    pub target_jump : (m : ℕ) (t : List ℕ) → t ≡ f m l → m ≡ operand e k → kind_goto ≤ kind_at e k → kind_at e k ≤ kind_if_goto → t ≡ at_target e k f l
    unfolding at_target
    target_jump m t p q a b = rw (le-leb kind_goto (kind_at e k) a, le-leb (kind_at e k) kind_if_goto b) (p ∙ ap (λ (x : ℕ). f x l) q)

-- ---- running on past the last byte
module _ (e : List ℕ) (k : ℕ) where
  pub off_goes : (x : ℕ) → x ≡ next e k → continues e k ≡ true → leb (length e) x ≡ runs_off_end e k
  unfolding runs_off_end
  off_goes x q p = rw (p, q) refl

  pub off_halts : continues e k ≡ false → false ≡ runs_off_end e k
  unfolding runs_off_end
  off_halts p = rw p refl

-- ---- a start of an expression for which passes 1 and 2 hold
module _ {e : List ℕ} {k : ℕ} (p : Passing e k) where
  pub passing_in : k < length e
  passing_in = start_in e k p.start

  pub passing_fits : next e k ≤ length e
  passing_fits = decodes_fits e k p.decodes p.start

  pub passing_known : get_or e k 0 < 53
  passing_known = known_low (get_or e k 0) (omega (arith, decodes_known e k p.decodes p.start))

  pub passing_target : kind_goto ≤ kind_at e k → kind_at e k ≤ kind_if_goto → operand e k < length e
  passing_target a b = start_in e (operand e k) (aims_target e k p.aims p.start a b).0

-- what a height is joined with is reached
joined_some : (c h : ℕ) → h ≢ unreached → joined c h ≢ unreached
joined_some c h n z =
    elim (ℕ_discrete c unreached) [
      | yes p ↦ absurd (n (sym (joined_first c h p) ∙ z))
      | no p ↦ elim (ℕ_discrete c h) [
        | yes q ↦ absurd (n (sym (joined_same c h q) ∙ z))
        | no q ↦ absurd (omega (arith, joined_differing c h p q))
      ]
    ]

-- ---- what comes to a start: c and b by jumps, h and d from the start before
module _ (c b h d : ℕ) where
  pub incoming_flow : c ≡ unreached → (c ≡ unreached → b ≡ 0) → h < 256 → Incoming c b h d (record { height = h; distance = d })
  incoming_flow p q s = record {
    height_is = elim (ℕ_discrete h unreached) [ yes r ↦ rw (eq-eqb h unreached r) (r ∙ sym p) | no r ↦ rw (ne_eqb h unreached r) (sym (joined_first c h p)) ];
    small = s;
    distance_is = λ r. rw (ne_eqb h unreached r) (omega (arith, q p));
    kept = λ _. refl;
  }

  pub incoming_both : {x y : ℕ} → h ≢ unreached → x ≡ joined c h → x < 256 → y ≡ max b d → Incoming c b h d (record { height = x; distance = y })
  incoming_both p q s t = record {
    height_is = rw (ne_eqb h unreached p) q;
    small = s;
    distance_is = λ _. rw (ne_eqb h unreached p) t;
    kept = λ z. absurd (joined_some c h p (sym q ∙ z));
  }

pub farther_low : (h b d n : ℕ) → b ≤ n → d ≤ n → farther h b d ≤ n
farther_low h b d n p q = elim (ℕ_discrete h unreached) [ yes r ↦ rw (eq-eqb h unreached r) p | no r ↦ rw (ne_eqb h unreached r) (omega arith) ]

-- ---- one reached start
-- an instruction that is not refused leaves at most 64 cells
pub effected_low : {e : List ℕ} {k h d g l : ℕ} {r : Carry} → Effected e k h d g l r → r.fault ≡ 0 → r.height ≤ 64
effected_low {e} {k} {h} x z = omega (arith, (x.onward z).height_is, (fine e k h (sym x.number ∙ z)).room)

-- an instruction that is no jump tells no target
pub brings_none : (e : List ℕ) (k h d : ℕ) (r : Carry) (hs ds : List ℕ) → kind_at e k ≢ kind_goto → kind_at e k ≢ kind_if_goto → Brings e k h d r hs ds hs ds
brings_none e k h d r hs ds p q = record { heights_are = λ _. target_none e k (arrive (height_after e k h)) hs p q; distances_are = λ _. target_none e k (raise (d + 1)) ds p q }

module _ (e : List ℕ) (k h d g l : ℕ) {s : Carry} {hs ds hs' ds' : List ℕ} where
  -- what the next start follows passes its height on
  pub stepped_on : kind_at e k ≢ kind_goto → kind_at e k ≢ kind_end → Effected e k h d g l s → Brings e k h d s hs ds hs' ds' → ReachedStep e k h d g l s hs ds hs' ds'
  stepped_on p q x t = record {
    number = x.number;
    passed = λ z. let o = x.onward z in record {
      height_is = rw (continues_true e k p q) o.height_is;
      distance_is = o.distance_is;
      greatest_is = o.greatest_is;
      longest_is = o.longest_is ∙ sym (longer_other e k (d + 1) l q);
    };
    brings = t;
  }

  -- a goto passes nothing on
  pub stepped_goto : {r : Carry} → kind_at e k ≡ kind_goto → Effected e k h d g l s → Brings e k h d s hs ds hs' ds' → Halting s.fault s.distance s.greatest l r
      → ReachedStep e k h d g l r hs ds hs' ds'
  stepped_goto p x t m = record {
    number = m.fault_is ∙ x.number;
    passed = λ z. let o = x.onward (sym m.fault_is ∙ z) in record {
      height_is = rw p m.height_is;
      distance_is = m.distance_is ∙ o.distance_is;
      greatest_is = m.greatest_is ∙ o.greatest_is;
      longest_is = m.longest_is ∙ sym (longer_other e k (d + 1) l (omega arith));
    };
    brings = record { heights_are = λ z. t.heights_are (sym m.fault_is ∙ z); distances_are = λ z. t.distances_are (sym m.fault_is ∙ z) };
  }

-- nor does an end, where a walk ends
pub stepped_end : (e : List ℕ) (k h d g l : ℕ) {s r : Carry} (hs ds : List ℕ) (x : ℕ) → kind_at e k ≡ kind_end → Effected e k h d g l s → x ≡ max l s.distance
    → Halting s.fault s.distance s.greatest x r → ReachedStep e k h d g l r hs ds hs ds
stepped_end e k h d g l hs ds x p f q m = record {
  number = m.fault_is ∙ f.number;
  passed = λ z. let o = f.onward (sym m.fault_is ∙ z) in record {
    height_is = rw p m.height_is;
    distance_is = m.distance_is ∙ o.distance_is;
    greatest_is = m.greatest_is ∙ o.greatest_is;
    longest_is = m.longest_is ∙ q ∙ ap (max l) o.distance_is ∙ sym (longer_end e k (d + 1) l p);
  };
  brings = brings_none e k h d _ hs ds (omega arith) (omega arith);
}

-- the same, where what flows on is told by the kind
pub stepped : (e : List ℕ) (k h d g l : ℕ) {s : Carry} {hs ds hs' ds' : List ℕ} {x : ℕ} {r : code.Carry} → x ≡ kind_at e k → Effected e k h d g l s → s.fault ≡ 0
    → FlowsFrom x s.height s.distance s.greatest s.longest r → Brings e k h d s hs ds hs' ds' → ReachedStep e k h d g l (carried (Ok r)) hs ds hs' ds'
unfolding longer
stepped e k h d g l {s} p f z m t =
    let o = f.onward z in
    record {
      number = sym z ∙ f.number;
      passed = λ _. record {
        height_is = m.height_is ∙ rw (p, o.height_is) refl;
        distance_is = m.distance_is ∙ o.distance_is;
        greatest_is = m.greatest_is ∙ o.greatest_is;
        longest_is = m.longest_is ∙ rw (p, o.distance_is, o.longest_is) refl;
      };
      brings = record { heights_are = λ _. t.heights_are z; distances_are = λ _. t.distances_are z };
    }

-- the kinds that are neither pick nor a jump nor an end
pub kind_straight : (k : Kind) → (k ≡ Unknown) ⊎ (k ≡ Unsupported) ⊎ (k ≡ Ext) ⊎ (k ≡ Variable) ⊎ (k ≡ Plain) → kind_of k < kind_pick
kind_straight k (inl p) = rw p (omega arith)
kind_straight k (inr (inl p)) = rw p (omega arith)
kind_straight k (inr (inr (inl p))) = rw p (omega arith)
kind_straight k (inr (inr (inr (inl p)))) = rw p (omega arith)
kind_straight k (inr (inr (inr (inr p)))) = rw p (omega arith)

-- the last kind: what is neither pick nor a jump
pub kind_last : (k : Kind) → kind_pick ≤ kind_of k → (k ≡ Pick → ⊥) → (k ≡ IfGoto → ⊥) → (k ≡ Goto → ⊥) → kind_of k ≡ kind_end
kind_last Unknown h p i g = absurd (omega (arith, h))
kind_last Unsupported h p i g = absurd (omega (arith, h))
kind_last Ext h p i g = absurd (omega (arith, h))
kind_last Variable h p i g = absurd (omega (arith, h))
kind_last Plain h p i g = absurd (omega (arith, h))
kind_last Pick h p i g = absurd (p refl)
kind_last Goto h p i g = absurd (g refl)
kind_last IfGoto h p i g = absurd (i refl)
kind_last End h p i g = refl

-- a refusal says nothing of what is lent
pub brings_refused : (e : List ℕ) (k h d : ℕ) {r : Carry} {hs ds hs' ds' : List ℕ} → r.fault ≢ 0 → Brings e k h d r hs ds hs' ds'
brings_refused e k h d n = record { heights_are = λ z. absurd (n z); distances_are = λ z. absurd (n z) }

pub refused_step : (e : List ℕ) (k h d g l : ℕ) {r : Carry} {hs ds hs' ds' : List ℕ} → r.fault ≡ fault3 e k h → r.fault ≢ 0 → ReachedStep e k h d g l r hs ds hs' ds'
refused_step e k h d g l p n =
    record { number = p; passed = λ z. absurd (n z); brings = record { heights_are = λ z. absurd (n z); distances_are = λ z. absurd (n z) } }

-- a start that is reached with what comes to it
pub turned_step : {e : List ℕ} {k : ℕ} {hs ds hs' ds' : List ℕ} {h d g l : ℕ} {f : Flow} {r : Carry} → Incoming (get_or hs k 0) (get_or ds k 0) h d f → f.height ≢ unreached
    → ReachedStep e k f.height f.distance g l r hs ds hs' ds' → Turned e k hs ds h d g l r hs' ds'
turned_step i n s = record { skipped = λ p. absurd (n (i.height_is ∙ p)); stepped = λ _. rw (i.height_is, i.distance_is n) at s }

-- ---- the code's table and the definition's, where the loop stands at i
module _ {v : ℕ → ℕ} {f : ℕ → List ℕ → List ℕ} (a : AtCell v f) where
  -- the same change keeps two tables alike
  if_alike : (b : Bool) (m j : ℕ) (s t : List ℕ) → j < length s → j < length t → get_or s j 0 ≡ get_or t j 0 → get_or (cond b (f m s) s) j 0 ≡ get_or (cond b (f m t) t) j 0
  if_alike true m j s t x y p =
      rw (a.is m s, a.is m t)
      (elim (ℕ_discrete j m) [
        | yes q ↦ rw (q, get_or-set_same s m (v (get_or s m 0)) 0 (rw q at x), get_or-set_same t m (v (get_or t m 0)) 0 (rw q at y)) (ap v (rw q at p))
        | no q ↦ get_or-set_other s m j (v (get_or s m 0)) 0 q ∙ p ∙ sym (get_or-set_other t m j (v (get_or t m 0)) 0 q)
      ])
  if_alike false m j s t x y p = p

  if_here : (b : Bool) (m : ℕ) (s : List ℕ) → m < length s → get_or (cond b (f m s) s) m 0 ≡ cond b (v (get_or s m 0)) (get_or s m 0)
  if_here true m s h = rw (a.is m s) (get_or-set_same s m (v (get_or s m 0)) 0 h)
  if_here false m s h = refl

  if_other : (b : Bool) (m j : ℕ) (s : List ℕ) → j ≢ m → get_or (cond b (f m s) s) j 0 ≡ get_or s j 0
  if_other true m j s h = rw (a.is m s) (get_or-set_other s m j (v (get_or s m 0)) 0 h)
  if_other false m j s h = refl

  -- the definition's table gets what is passed on to target and next start, the code's what is passed on to the target
  ahead_pass : {e : List ℕ} {i x y : ℕ} {s t : List ℕ} → AgreeFrom e i x s t
      → cond (continues e i) (v (get_or (at_target e i f s) (next e i) 0)) (get_or (at_target e i f s) (next e i) 0) ≡ y
      → AgreeFrom e (next e i) y (at_target e i f s) (pass_on e i f t)
  unfolding at_target at_next
  ahead_pass {e} {i} {x} {y} {s} {t} p q =
      let s' : List ℕ = cond (jumps e i) (f (operand e i) s) s in
      let t' : List ℕ = cond (jumps e i) (f (operand e i) t) t in
      let long' : length e ≤ length s' = rw (if_length a (jumps e i) (operand e i) s) p.long in
      let full' : length e ≤ length t' = rw (if_length a (jumps e i) (operand e i) t) p.full in
      let alike : (j : ℕ) → i < j → j < length e → get_or t' j 0 ≡ get_or s' j 0
      = λ j h m. if_alike (jumps e i) (operand e i) j t s (omega (arith, p.full)) (omega (arith, p.long)) (p.later j h m) in
      record {
        long = long';
        full = rw (if_length a (continues e i) (next e i) t') full';
        here = λ m. if_here (continues e i) (next e i) t' (omega arith)
            ∙ ap (λ (z : ℕ). cond (continues e i) (v z) z) (alike (next e i) (omega arith) m) ∙ q;
        later = λ j h m. if_other (continues e i) (next e i) j t' (omega arith) ∙ alike j (omega arith) m;
      }

-- nothing is passed on
ahead_skip : {e : List ℕ} {i x y : ℕ} {s t : List ℕ} → AgreeFrom e i x s t → get_or s (next e i) 0 ≡ y → AgreeFrom e (next e i) y s t
ahead_skip {e} {i} p q = record {
  long = p.long;
  full = p.full;
  here = λ m. p.later (next e i) (omega arith) m ∙ q;
  later = λ j h m. p.later j (omega arith) m;
}

-- ---- what flows on, at the next start
flows_height : (b : Bool) (c h : ℕ) → h ≤ 64 → cond b (joined c h) c ≡ arrived c (cond b h unreached)
flows_height true c h low = rw (ne_eqb h unreached (omega arith))
flows_height false c h low = refl

flows_distance : (b : Bool) (c d h : ℕ) → h ≤ 64 → cond b (max c d) c ≡ farther (cond b h unreached) c d
flows_distance true c d h low = rw (ne_eqb h unreached (omega arith))
flows_distance false c d h low = refl

flows_small : (b : Bool) (h : ℕ) → h ≤ 64 → cond b h unreached < 256
flows_small true h low = omega arith
flows_small false h low = omega arith

-- ---- the code's tables, where a jump has brought something to its target
pub joined_reached : (c h : ℕ) → h ≤ 64 → joined c h ≢ unreached
joined_reached c h low = joined_some c h (omega arith)

if_untold : (b : Bool) (m j h d : ℕ) (hs ds : List ℕ) → h ≤ 64 → j < length hs → (get_or hs j 0 ≡ unreached → get_or ds j 0 ≡ 0)
    → get_or (cond b (arrive h m hs) hs) j 0 ≡ unreached → get_or (cond b (raise d m ds) ds) j 0 ≡ 0
unfolding arrive raise
if_untold true m j h d hs ds low n u z =
    elim (ℕ_discrete j m) [
      | yes q ↦ absurd (joined_reached (get_or hs m 0) h low (sym (get_or-set_same hs m (joined (get_or hs m 0) h) 0 (rw q at n)) ∙ rw q at z))
      | no q ↦ get_or-set_other ds m j (max (get_or ds m 0) d) 0 q ∙ u (sym (get_or-set_other hs m j (joined (get_or hs m 0) h) 0 q) ∙ z)
    ]
if_untold false m j h d hs ds low n u z = u z

module _ (e : List ℕ) (k h d : ℕ) (hs ds : List ℕ) where
  target_untold : h ≤ 64 → (j : ℕ) → j < length hs → (get_or hs j 0 ≡ unreached → get_or ds j 0 ≡ 0)
      → get_or (at_target e k (arrive h) hs) j 0 ≡ unreached → get_or (at_target e k (raise d) ds) j 0 ≡ 0
  unfolding at_target
  target_untold low j n = if_untold (jumps e k) (operand e k) j h d hs ds low n

  target_low : (b : ℕ) → d ≤ b → (j : ℕ) → get_or ds j 0 ≤ b → get_or (at_target e k (raise d) ds) j 0 ≤ b
  unfolding at_target
  target_low b q j = if_kept (raises d) (jumps e k) (operand e k) j ds (λ (y : ℕ). y ≤ b) (λ _ _ c p. omega arith)

-- ---- new tables, n long
pub unmeasured_new : (e : List ℕ) (n : ℕ) → length e ≤ n → Unmeasured e (replicate n unreached) (replicate n 0)
unmeasured_new e n h = record {
  heights_long = omega (arith, length-replicate {A = ℕ} n unreached);
  distances_long = omega (arith, length-replicate {A = ℕ} n 0);
  no_height = λ k m. get_or-replicate n k unreached 0 (omega arith);
  no_distance = λ k. replicate_at n k 0;
}

-- ---- the loop stands at offset i, to which h and d flow in
pub measuring_start : (e hs ds : List ℕ) → length e ≤ 1024 → Decodes e → Aims e → Unmeasured e hs ds → Measuring e 0 hs ds 0 0 0 0
unfolding pass3
measuring_start e hs ds l d a u = record {
  within = omega arith;
  here = λ h. record { short = l; decodes = d; aims = a; start = start_zero e h };
  small = omega arith;
  near = omega arith;
  low = λ j. omega (arith, u.no_distance j);
  top = omega arith;
  untold = λ j _ _. u.no_distance j;
  heights = heights0;
  distances = distances0;
  heights_ahead = record {
    long = u.heights_long;
    full = omega (arith, heights0_length);
    here = λ h. heights0_zero ∙ sym (joined_first (get_or hs 0 0) 0 (u.no_height 0 h));
    later = λ j h m. heights0_other j (omega arith) (omega arith) ∙ sym (u.no_height j m);
  };
  distances_ahead = record {
    long = u.distances_long;
    full = omega (arith, distances0_length);
    here = λ _. omega (arith, distances0_at 0, u.no_distance 0);
    later = λ j _ _. distances0_at j ∙ sym (u.no_distance j);
  };
  same = refl;
}

module _ {e : List ℕ} {i : ℕ} {hs ds : List ℕ} {h d g l : ℕ} (s : Measuring e i hs ds h d g l) (n : i < length e) where
  -- nothing comes to i
  measuring_skip : arrived (get_or hs i 0) h ≡ unreached → Measuring e (next e i) hs ds unreached d g l
  measuring_skip p =
      let q = s.here n in
      record {
        within = passing_fits q;
        here = λ m. record { short = q.short; decodes = q.decodes; aims = q.aims; start = start_next e i q.start m };
        small = omega arith;
        near = omega (arith, s.near);
        low = λ j. omega (arith, s.low j);
        top = s.top;
        untold = s.untold;
        heights = s.heights;
        distances = s.distances;
        heights_ahead = ahead_skip s.heights_ahead refl;
        distances_ahead = ahead_skip s.distances_ahead refl;
        same = sym (along_skip one e i (starts_from e (next e i)) s.heights s.distances g l (s.heights_ahead.here n ∙ p)) ∙ rw (from_next e i n) at s.same;
      }

  -- i is reached with height x, after y instructions
  module _ (x y : ℕ) (hx : get_or s.heights i 0 ≡ x) (dy : get_or s.distances i 0 ≡ y) (p : x ≢ unreached) where
    reached : get_or s.heights i 0 ≢ unreached
    reached z = p (sym hx ∙ z)

    measuring_pass : {r : Carry} {hs' ds' : List ℕ} → y ≤ i → ReachedStep e i x y g l r hs ds hs' ds' → r.fault ≡ 0
        → Measuring e (next e i) hs' ds' r.height r.distance r.greatest r.longest
    measuring_pass {r} {hs'} {ds'} low t z =
        let q = s.here n in
        let o = t.passed z in
        let f : fault3 e i x ≡ 0 = sym t.number ∙ z in
        let after : ℕ = height_after e i x in
        let room : after ≤ 64 = (fine e i x f).room in
        let on = rw (hx, dy) at (along_pass one e i (starts_from e (next e i)) s.heights s.distances g l reached (ap (fault3 e i) hx ∙ f)) in
        rw (t.brings.heights_are z, t.brings.distances_are z, o.height_is, o.distance_is, o.greatest_is, o.longest_is)
        (record {
          within = passing_fits q;
          here = λ m. record { short = q.short; decodes = q.decodes; aims = q.aims; start = start_next e i q.start m };
          small = flows_small (continues e i) after room;
          near = omega arith;
          low = λ j. target_low e i after (y + 1) hs ds (next e i) (omega arith) j (omega (arith, s.low j));
          top = omega (arith, s.top);
          untold = λ j m. target_untold e i after (y + 1) hs ds room j (omega (arith, s.heights_ahead.long)) (s.untold j m);
          heights = pass_on e i (arrive after) s.heights;
          distances = pass_on e i (raise (y + 1)) s.distances;
          heights_ahead = ahead_pass (arrives after) s.heights_ahead (flows_height (continues e i) (get_or (at_target e i (arrive after) hs) (next e i) 0) after room);
          distances_ahead = ahead_pass (raises (y + 1)) s.distances_ahead (flows_distance (continues e i) (get_or (at_target e i (raise (y + 1)) ds) (next e i) 0) (y + 1) after room);
          same = sym on ∙ rw (from_next e i n) at s.same;
        })

    measuring_stop : {r : Carry} {hs' ds' : List ℕ} → ReachedStep e i x y g l r hs ds hs' ds' → r.fault ≢ 0 → refused (refusal r.fault i) ≡ after3 e (pass3 one e)
    unfolding after3
    measuring_stop {r} t z =
        let f : fault3 e i (get_or s.heights i 0) ≡ r.fault = ap (fault3 e i) hx ∙ sym t.number in
        let q : stopped (refusal r.fault i) ≡ pass3 one e
        = ap (λ (m : ℕ). stopped (refusal m i)) (sym f)
        ∙ sym (along_stop one e i (starts_from e (next e i)) s.heights s.distances g l reached (λ m. z (sym f ∙ m)))
        ∙ rw (from_next e i n) at s.same in
        ap (after3 e) q

  module _ {r : Carry} {hs' ds' : List ℕ} (t : Turned e i hs ds h d g l r hs' ds') where
    pub measuring_turn : r.fault ≡ 0 → Measuring e (next e i) hs' ds' r.height r.distance r.greatest r.longest
    measuring_turn z =
        elim (ℕ_discrete (arrived (get_or hs i 0) h) unreached) [
          | yes p ↦ let q = t.skipped p in let m = q.0 in rw (q.1, q.2, m.height_is, m.distance_is, m.greatest_is, m.longest_is) (measuring_skip p)
          | no p ↦ measuring_pass _ _ (s.heights_ahead.here n) (s.distances_ahead.here n) p (farther_low h (get_or ds i 0) d i (s.low i) s.near) (t.stepped p) z
        ]

    pub measuring_fault : r.fault ≢ 0 → refused (refusal r.fault i) ≡ after3 e (pass3 one e)
    measuring_fault z =
        elim (ℕ_discrete (arrived (get_or hs i 0) h) unreached) [
          | yes p ↦ absurd (z (t.skipped p).0.fault_is)
          | no p ↦ measuring_stop _ _ (s.heights_ahead.here n) (s.distances_ahead.here n) p (t.stepped p) z
        ]

pub measuring_end : {e : List ℕ} {i : ℕ} {hs ds : List ℕ} {h d g l : ℕ} → Measuring e i hs ds h d g l → length e ≤ i → (n : ℕ) → n ≡ length (starts e)
    → accepted n g l ≡ after3 e (pass3 one e)
unfolding after3
measuring_end {e} {i} {g = g} {l = l} s h n q =
    rw q (ap (after3 e) (sym (along_nil one e s.heights s.distances g l) ∙ rw (from_end e i h) at s.same))
