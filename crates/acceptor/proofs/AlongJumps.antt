-- The pass over code with jumps: the offsets noted and met, and one start by its kind.
use mathlib.Core.Bool.{Bool, true, false}
use mathlib.Core.List.{List, [], ◌∷◌}
use mathlib.Core.Path.{◌≡◌, refl, ap, sym, ◌∙◌, subst}
use mathlib.Core.Logic.{◌≢◌, inl, ⊎_elim}
use Prim.Native.Nat.{ℕ, zero, suc, ◌+◌, ◌-◌, ◌≤◌, ◌<◌, max}
use native.Mathlib.Omega.{arith}
use native.Mathlib.Decide.{ℕ_discrete}
use lib.ListN.{get_or, length, set, replicate, length-set, length-replicate, get_or-replicate}
use lib.Seq.{get_or-set_same, get_or-set_other}
use borrow.Author.Tests.{eq-eqb, ne_eqb, lt-leb}
use Rattle.isa.specs.Classes.{kind, setv, kind_variable, kind_goto, kind_if_goto}
use Rattle.isa.specs.Decode.{class_at, kind_at, next, operand, needed, height_after}
use Rattle.isa.specs.Starts.{starts, starts_from, is_start}
use Rattle.isa.proofs.Promises.{after_by, needed_row, left_row, end_cells, from_end, from_next, start_next}
use Rattle.verdict.specs.Pass1.{fault1, Decodes}
use Rattle.verdict.specs.Pass2.{fault2, Aims}
use Rattle.verdict.specs.Pass3.{unreached, joined, arrive, raise, runs_off_end}
use Rattle.verdict.specs.Verdict.{accepted, verdict}
use Rattle.verdict.proofs.Deciding.{first_nil, first_ok, clear_holds, f_plain, f_forward, off_goto, off_end, off_other, fault_none, joined_same, raises, if_kept, jumps_true, verdict_3}
use Rattle.passes.specs.Joining.Tables.{Unmeasured, Effected, Brings, ReachedStep, Measuring}
use Rattle.passes.specs.Joining.Tables.{Carry}
use Rattle.passes.proofs.Promises.{target_jump, brings_none, joined_reached, incoming_flow, incoming_both, stepped_on, stepped_goto, stepped_end, turned_step, unmeasured_new, measuring_turn, measuring_end}
use Rattle.acceptor.specs.Joining.Instruction.{GoesOn, IsEnd, IsJump, IsIfGoto, IsGoto}
use Rattle.acceptor.specs.Joining.StraightCode.{SetsNothingBefore, Following, Accepts}
use Rattle.acceptor.specs.Joining.CodeWithJumps.{noted_one, tally, Pending, NotedStarts, Joins, FromJumps, progress_behind, JumpsOn, Stands, Branching, BranchingJoined, Turns}
use Rattle.acceptor.specs.declared.effects.Onward.{Onward}
use Rattle.acceptor.specs.declared.Stop.{Stop}
use Rattle.acceptor.specs.declared.branching.Progress.{Progress}
use Rattle.acceptor.specs.declared.branching.Turn.TheVariants.{On}
use Rattle.acceptor.proofs.AlongStraight.{quiet_next, quiet_last, no_jump_low, no_jump_end}

-- ---- the number of offsets noted
noted_new : (x : ℕ) → x ≡ unreached → noted_one x ≡ 0
noted_new x p = rw (eq-eqb x unreached p)

noted_old : (x : ℕ) → x ≢ unreached → noted_one x ≡ 1
noted_old x p = rw (ne_eqb x unreached p)

tally_set : (l : List ℕ) (j v : ℕ) → j < length l → tally (set l j v) + noted_one (get_or l j 0) ≡ tally l + noted_one v
unfolding tally
tally_set [] j v h = absurd (omega arith)
tally_set (x ∷ l) zero v h = omega arith
tally_set (x ∷ l) (suc j) v h = omega (arith, tally_set l j v (omega arith))

tally_zero : (l : List ℕ) (j : ℕ) → tally l ≡ 0 → j < length l → get_or l j 0 ≡ unreached
unfolding tally
tally_zero [] j p h = absurd (omega arith)
tally_zero (x ∷ l) zero p h = elim (ℕ_discrete x unreached) [ yes q ↦ q | no q ↦ absurd (omega (arith, noted_old x q)) ]
tally_zero (x ∷ l) (suc j) p h = tally_zero l j (omega arith) (omega arith)

tally_none : (n : ℕ) → tally (replicate n unreached) ≡ 0
unfolding tally
tally_none zero = refl
tally_none (suc n) = omega (arith, tally_none n)

-- ---- the offsets that wait
pub pending_start : (e : List ℕ) (k : ℕ) (hs : List ℕ) → ((j : ℕ) → j < length e → get_or hs j 0 ≡ unreached) → Pending e k hs 0 0
pending_start e k hs u = record {
  waiting = replicate (length e) unreached;
  long = omega (arith, length-replicate {A = ℕ} (length e) unreached);
  sum = omega (arith, tally_none (length e));
  later = λ j _ h. get_or-replicate (length e) j unreached 0 h ∙ sym (u j h);
  lost = λ j h p _. absurd (p (u j h));
}

module _ {e : List ℕ} {k : ℕ} {hs : List ℕ} {t m : ℕ} where
  pub pending_on : (i : ℕ) → k ≤ i → Pending e k hs t m → Pending e i hs t m
  pending_on i h p = record { waiting = p.waiting; long = p.long; sum = p.sum; later = λ j l. p.later j (omega arith); lost = p.lost }

  -- k is a start, and was noted
  pub pending_met : Pending e k hs t m → k < length e → is_start e k ≡ true → get_or hs k 0 ≢ unreached → Pending e (k + 1) hs t (m + 1)
  pending_met p i s q =
      let ws : List ℕ = p.waiting in
      let r : get_or ws k 0 ≢ unreached = λ z. q (sym (p.later k (omega arith) i) ∙ z) in
      record {
        waiting = set ws k unreached;
        long = rw (length-set ws k unreached) p.long;
        sum = omega (arith, tally_set ws k unreached (omega (arith, p.long)), noted_old (get_or ws k 0) r, p.sum);
        later = λ j h l. get_or-set_other ws k j unreached 0 (omega arith) ∙ p.later j (omega arith) l;
        lost = λ j l u z. elim (ℕ_discrete j k) [ yes y ↦ rw y s | no y ↦ p.lost j l u (sym (get_or-set_other ws k j unreached 0 y) ∙ z) ];
      }

  -- x is noted, behind k
  module _ (p : Pending e (k + 1) hs t m) (x h i : ℕ) (low : h ≤ 64) (ahead : k < x) (inside : x < length e) (long : length e ≤ length hs) (on : k + 1 ≤ i) where
    pub pending_noted : (t' : ℕ) → (get_or hs x 0 ≡ unreached → t' ≡ t + 1) → (get_or hs x 0 ≢ unreached → t' ≡ t) → Pending e i (arrive h x hs) t' m
    unfolding arrive
    pending_noted t' new old =
        let ws : List ℕ = p.waiting in
        let v : ℕ = joined (get_or hs x 0) h in
        let v-noted : v ≢ unreached = joined_reached (get_or hs x 0) h low in
        let same : get_or ws x 0 ≡ get_or hs x 0 = p.later x (omega arith) inside in
        let total = tally_set ws x v (omega (arith, p.long)) in
        record {
          waiting = set ws x v;
          long = rw (length-set ws x v) p.long;
          sum = elim (ℕ_discrete (get_or hs x 0) unreached) [
            | yes q ↦ omega (arith, total, noted_old v v-noted, noted_new (get_or ws x 0) (same ∙ q), p.sum, new q)
            | no q ↦ omega (arith, total, noted_old v v-noted, noted_old (get_or ws x 0) (λ z. q (sym same ∙ z)), p.sum, old q)
          ];
          later = λ j g l. elim (ℕ_discrete j x) [
            | yes y ↦ rw y (get_or-set_same ws x v 0 (omega (arith, p.long)) ∙ sym (get_or-set_same hs x v 0 (omega arith)))
            | no y ↦ get_or-set_other ws x j v 0 y ∙ p.later j (omega arith) l ∙ sym (get_or-set_other hs x j v 0 y)
          ];
          lost = λ j l u z. elim (ℕ_discrete j x) [
            | yes y ↦ absurd (v-noted (sym (get_or-set_same ws x v 0 (omega (arith, p.long))) ∙ rw y at z))
            | no y ↦ p.lost j l (λ q. u (get_or-set_other hs x j v 0 y ∙ q)) (sym (get_or-set_other ws x j v 0 y) ∙ z)
          ];
        }

-- as many met as noted: every one is a start
pub pending_end : {e : List ℕ} {k : ℕ} {hs : List ℕ} {t m : ℕ} → Pending e k hs t m → t ≡ m → NotedStarts e hs
pending_end p q j l u = p.lost j l u (tally_zero p.waiting j (omega (arith, p.sum)) (omega (arith, p.long)))

-- ---- what a jump tells
module _ (hs : List ℕ) (x h : ℕ) (low : h ≤ 64) (inside : x < length hs) where
  arrives_at : get_or (arrive h x hs) x 0 ≢ unreached
  unfolding arrive
  arrives_at z = joined_reached (get_or hs x 0) h low (sym (get_or-set_same hs x (joined (get_or hs x 0) h) 0 inside) ∙ z)

  arrives_kept : (j : ℕ) → get_or hs j 0 ≢ unreached → get_or (arrive h x hs) j 0 ≢ unreached
  unfolding arrive
  arrives_kept j u z =
      elim (ℕ_discrete j x) [
        | yes y ↦ arrives_at (rw y at z)
        | no y ↦ u (sym (get_or-set_other hs x j (joined (get_or hs x 0) h) 0 y) ∙ z)
      ]

arrive_length : (hs : List ℕ) (x h : ℕ) → length (arrive h x hs) ≡ length hs
unfolding arrive
arrive_length hs x h = length-set hs x (joined (get_or hs x 0) h)

raise_length : (ds : List ℕ) (x d : ℕ) → length (raise d x ds) ≡ length ds
unfolding raise
raise_length ds x d = length-set ds x (max (get_or ds x 0) d)

raise_low : (ds : List ℕ) (x d b j : ℕ) → d ≤ b → get_or ds j 0 ≤ b → get_or (raise d x ds) j 0 ≤ b
raise_low ds x d b j p q = if_kept (raises d) true x j ds (λ (y : ℕ). y ≤ b) (λ _ _ c r. omega arith) q

-- ---- nothing flows in, and what jumps have brought is taken as what flows
pub brought_in : {e : List ℕ} {i : ℕ} {hs ds : List ℕ} {d g l : ℕ} (c b : ℕ) → Measuring e i hs ds unreached d g l → c ≡ get_or hs i 0 → b ≡ get_or ds i 0 → c ≤ 64
    → Measuring e i hs ds c b g l
brought_in {e} {i} {hs} {ds} c b s p q low = record {
  within = s.within;
  here = s.here;
  small = omega arith;
  near = omega (arith, s.low i);
  low = s.low;
  top = s.top;
  untold = s.untold;
  heights = s.heights;
  distances = s.distances;
  heights_ahead = record {
    long = s.heights_ahead.long;
    full = s.heights_ahead.full;
    here = λ h. s.heights_ahead.here h ∙ rw (ne_eqb c unreached (omega arith)) (sym p ∙ sym (joined_same (get_or hs i 0) c (sym p)));
    later = s.heights_ahead.later;
  };
  distances_ahead = record {
    long = s.distances_ahead.long;
    full = s.distances_ahead.full;
    here = λ h. s.distances_ahead.here h ∙ rw (ne_eqb c unreached (omega arith)) (omega arith);
    later = s.distances_ahead.later;
  };
  same = s.same;
}

-- ---- one instruction that is not refused
module _ (e : List ℕ) (k h d g l : ℕ) (low : h ≤ 64) (cells : needed e k ≤ h) (room : height_after e k h ≤ 64) (stays : runs_off_end e k ≡ false) where
  effected : (x : ℕ) → x ≡ max g (height_after e k h) → Effected e k h d g l (record { fault = 0; height = height_after e k h; distance = d + 1; greatest = x; longest = l })
  effected x p = record {
    number = fault_none e k h (omega arith) cells room stays;
    onward = λ _. record { height_is = refl; distance_is = refl; greatest_is = p; longest_is = refl };
  }

brings_jump : (e : List ℕ) (k h d : ℕ) (r : Carry) (hs ds hs' ds' : List ℕ) → kind_goto ≤ kind_at e k → kind_at e k ≤ kind_if_goto
    → hs' ≡ arrive (height_after e k h) (operand e k) hs → ds' ≡ raise (d + 1) (operand e k) ds → Brings e k h d r hs ds hs' ds'
brings_jump e k h d r hs ds hs' ds' a b p q = record {
  heights_are = λ _. target_jump e k (arrive (height_after e k h)) hs (operand e k) hs' p refl a b;
  distances_are = λ _. target_jump e k (raise (d + 1)) ds (operand e k) ds' q refl a b;
}

-- ---- the loop
-- the state with which it begins
abbrev begun : Stop → Progress
begun s = record { at = s.at; height = s.height; distance = s.count; count = s.count; greatest = s.greatest; longest = 0; noted = 0; met = 0; sets = s.sets }

pub branching_start : {e : List ℕ} {s : Stop} {hs ds : List ℕ} → Following e s → Unmeasured e hs ds → Branching e (begun s) hs ds
branching_start {e} {s} {hs} {ds} f u = record {
  stands = record {
    short = f.short;
    inside = f.inside;
    start = f.start;
    same1 = f.same1;
    count = f.count;
    aims = λ _. f.same2;
    highest = f.highest;
    lower = omega (arith, f.low);
    few = f.few;
    few_noted = omega arith;
    heights_long = u.heights_long;
    distances_long = u.distances_long;
    low = λ j. omega (arith, u.no_distance j);
  };
  near = f.few;
  pending = pending_start e s.at hs u.no_height;
  measuring = f.measuring hs ds u;
  quiet = f.quiet;
}

pub joins_at : (c b : ℕ) (s r : Progress) → Joins c b s r → r.at ≡ s.at
joins_at c b s r w = ⊎_elim (λ x. ap (λ (y : Progress). y.at) x.1) (λ x. ap (λ (y : Progress). y.at) x.2) w

-- what jumps have brought meets what flows in
pub joining : {e : List ℕ} {s r : Progress} {hs ds : List ℕ} → Branching e s hs ds → Joins (get_or hs s.at 0) (get_or ds s.at 0) s r → BranchingJoined e r hs ds
joining {e} {s} {r} {hs} {ds} a w =
    let k : ℕ = s.at in
    let st = a.stands in
    ⊎_elim
    (λ (x : (get_or hs k 0 ≡ unreached) × (r ≡ s)). rw x.1 (record {
      stands = st;
      near = a.near;
      pending = pending_on (k + 1) (omega arith) a.pending;
      flow = s.distance;
      measuring = a.measuring;
      incoming = λ low d i.
          incoming_flow (get_or hs k 0) (get_or ds k 0) s.height s.distance x.0 ((a.measuring low d i).untold k st.inside) (omega (arith, st.highest));
      quiet = a.quiet;
    }))
    (λ (x : (get_or hs k 0 ≡ s.height) × (get_or hs k 0 ≢ unreached) × (r ≡ record s { distance = max (get_or ds k 0) s.distance; met = s.met + 1 })). rw x.2 (record {
      stands = st;
      near = omega (arith, a.near, st.low k);
      pending = pending_met a.pending st.inside st.start x.1;
      flow = s.distance;
      measuring = a.measuring;
      incoming = λ low d i.
          incoming_both (get_or hs k 0) (get_or ds k 0) s.height s.distance (λ z. x.1 (x.0 ∙ z)) (sym (joined_same (get_or hs k 0) s.height x.0)) (omega (arith, st.highest)) refl;
      quiet = a.quiet;
    }))
    w

-- ---- from one start to the next
module _ {e : List ℕ} {k h n g t : ℕ} {hs ds : List ℕ} (st : Stands e k h n g t hs ds) (f : fault1 e k ≡ 0) (i : next e k < length e) where
  stands_next : {h' g' t' : ℕ} {hs' ds' : List ℕ} → (NotedStarts e hs' → NotedStarts e hs × (fault2 e k ≡ 0)) → h' ≤ g' → h' ≤ 256 + next e k → t' ≤ next e k
      → length e ≤ length hs' → length e ≤ length ds' → ((j : ℕ) → get_or ds' j 0 ≤ next e k) → Stands e (next e k) h' (n + 1) g' t' hs' ds'
  stands_next x p q r lh ld lo =
      let ks : List ℕ = starts_from e (next e k) in
      let from : starts_from e k ≡ k ∷ ks = from_next e k st.inside in
      record {
        short = st.short;
        inside = i;
        start = start_next e k st.start i;
        same1 = sym (first_ok (fault1 e) k ks f) ∙ rw from at st.same1;
        count = let y : n + suc (length ks) ≡ length (starts e) = rw from at st.count in omega arith;
        aims = λ u. let y = x u in sym (first_ok (fault2 e) k ks y.1) ∙ rw from at (st.aims y.0);
        highest = p;
        lower = q;
        few = omega (arith, st.few);
        few_noted = r;
        heights_long = lh;
        distances_long = ld;
        low = lo;
      }

module _ {e : List ℕ} {s : Progress} {hs ds : List ℕ} (a : BranchingJoined e s hs ds) where
  -- the pass of the definition goes on
  branch_measured : s.greatest ≤ 64 → Decodes e → Aims e → {r : Carry} {hs' ds' : List ℕ} → ReachedStep e s.at s.height s.distance s.greatest s.longest r hs ds hs' ds' → r.fault ≡ 0
      → Measuring e (next e s.at) hs' ds' r.height r.distance r.greatest r.longest
  branch_measured low d i x z =
      measuring_turn (a.measuring low d i) a.stands.inside (turned_step (a.incoming low d i) (omega (arith, a.stands.highest)) x) z

  -- behind an instruction that is no variable's
  quiet_past : kind_at e s.at ≢ kind_variable → SetsNothingBefore e (next e s.at) s.sets
  quiet_past p = quiet_next e s.at a.stands.start a.quiet (λ z. (z, λ y. p (ap kind y)))

  -- an instruction that the next start follows
  pub turned_on : {w : Onward} → GoesOn e s.at s.height s.greatest w → {q : Bool} → (q ≡ false → (s.sets ≡ false) × (class_at e s.at ≢ setv))
      → Turns e s.at hs ds (On (record s { at = w.at; height = w.height; distance = s.distance + 1; count = s.count + 1; greatest = w.greatest; sets = q }))
  turned_on {w} y q =
      let k : ℕ = s.at in
      let st = a.stands in (
        omega (arith, y.at_is),
        λ i. rw (y.greatest_is, y.height_is, y.at_is) (let j : next e k < length e = omega (arith, y.at_is) in record {
          stands = stands_next st (y.clear (omega arith)) j (λ u. (u, no_jump_low e k y.straight)) (omega arith) (omega (arith, st.lower, y.low, y.height_is)) (omega (arith, st.few_noted))
              st.heights_long st.distances_long (λ m. omega (arith, st.low m));
          near = omega (arith, a.near);
          pending = pending_on (next e k) (omega arith) a.pending;
          measuring = λ low d v.
              branch_measured (omega arith) d v
              (stepped_on e k s.height s.distance s.greatest s.longest (omega (arith, y.straight)) (omega (arith, y.straight))
              (effected e k s.height s.distance s.greatest s.longest (omega (arith, st.highest)) y.cells (omega arith)
              (sym (off_other e k (next e k) (omega (arith, y.straight)) (omega (arith, y.straight)) refl) ∙ lt-leb (length e) (next e k) j) _ refl)
              (brings_none e k s.height s.distance _ hs ds (omega (arith, y.straight)) (omega (arith, y.straight))))
              refl;
          quiet = quiet_next e k st.start a.quiet q;
        }),
      )

  -- a jump
  module _ {n : ℕ} (b : IsJump e s.at n) {r : Progress} {hs' ds' : List ℕ} (w : JumpsOn e s hs ds hs' ds' r) where
    jump_after : height_after e s.at s.height ≤ s.height
    jump_after = omega (arith, after_by e s.at s.height n 0 b.needed_is b.left_is, w.cells, b.needed_is)

    jump_noted : r.noted ≤ s.noted + 1
    jump_noted = elim (ℕ_discrete (get_or hs (operand e s.at) 0) unreached) [ yes q ↦ omega (arith, w.new q) | no q ↦ omega (arith, w.old q) ]

    jump_clear : fault1 e s.at ≡ 0
    jump_clear = sym (f_plain e s.at (omega (arith, b.next_is, w.room)) (omega (arith, b.least)) (omega (arith, b.least)) (omega (arith, b.least)))

    jump_aims : NotedStarts e hs' → NotedStarts e hs × (fault2 e s.at ≡ 0)
    jump_aims u =
        let x : ℕ = operand e s.at in
        let low : height_after e s.at s.height ≤ 64 = omega (arith, jump_after, w.low) in
        let i : x < length hs = omega (arith, w.inside, a.stands.heights_long) in
        let v : NotedStarts e (arrive (height_after e s.at s.height) x hs) = rw w.heights_are at u in (
          λ j m q. v j m (arrives_kept hs x (height_after e s.at s.height) low i j q),
          sym (f_forward e s.at (jumps_true e s.at b.least b.most) (v x w.inside (arrives_at hs x (height_after e s.at s.height) low i)) w.forward),
        )

    jump_stands : {h' g' : ℕ} → h' ≤ g' → h' ≤ 256 → Stands e (next e s.at) h' (s.count + 1) g' r.noted hs' ds'
    jump_stands p q =
        stands_next a.stands jump_clear (omega (arith, b.next_is, w.room)) jump_aims p (omega arith) (omega (arith, jump_noted, b.next_is, a.stands.few_noted))
        (rw (w.heights_are, arrive_length hs (operand e s.at) (height_after e s.at s.height)) a.stands.heights_long)
        (rw (w.distances_are, raise_length ds (operand e s.at) (s.distance + 1)) a.stands.distances_long)
        (λ j. rw w.distances_are (raise_low ds (operand e s.at) (s.distance + 1) (next e s.at) j (omega (arith, a.near, b.next_is)) (omega (arith, a.stands.low j, b.next_is))))

    jump_pending : Pending e (next e s.at) hs' r.noted s.met
    jump_pending =
        rw w.heights_are
        (pending_noted a.pending (operand e s.at) (height_after e s.at s.height) (next e s.at) (omega (arith, jump_after, w.low)) w.forward w.inside a.stands.heights_long
        (omega (arith, b.next_is)) r.noted w.new w.old)

    jump_effected : runs_off_end e s.at ≡ false
        → Effected e s.at s.height s.distance s.greatest s.longest
        (record { fault = 0; height = height_after e s.at s.height; distance = s.distance + 1; greatest = s.greatest; longest = s.longest })
    jump_effected o =
        effected e s.at s.height s.distance s.greatest s.longest w.low w.cells (omega (arith, jump_after, w.low)) o s.greatest
        (omega (arith, jump_after, a.stands.highest))

    jump_brings : (x : Carry) → Brings e s.at s.height s.distance x hs ds hs' ds'
    jump_brings x = brings_jump e s.at s.height s.distance x hs ds hs' ds' b.least b.most w.heights_are w.distances_are

  pub turned_if : IsIfGoto e s.at → {r : Progress} {hs' ds' : List ℕ} → JumpsOn e s hs ds hs' ds' r → Turns e s.at hs' ds' (On r)
  turned_if c {r} {hs'} {ds'} w =
      let k : ℕ = s.at in
      let b = c.jump in
      let i : next e k < length e = omega (arith, b.next_is, w.room) in
      rw w.same (
        omega arith,
        λ _.
            subst
            (λ (x : ℕ). Branching e (progress_behind s x (height_after e k s.height) (s.distance + 1) s.longest r.noted) hs' ds')
            b.next_is
            (record {
              stands = jump_stands b w (omega (arith, jump_after b w, a.stands.highest)) (omega (arith, jump_after b w, w.low));
              near = omega (arith, a.near);
              pending = jump_pending b w;
              quiet = quiet_past (omega (arith, c.kind_is));
              measuring = λ low d v.
                  branch_measured low d v
                  (stepped_on e k s.height s.distance s.greatest s.longest (omega (arith, c.kind_is)) (omega (arith, c.kind_is))
                  (jump_effected b w (sym (off_other e k (next e k) (omega (arith, c.kind_is)) (omega (arith, c.kind_is)) refl) ∙ lt-leb (length e) (next e k) i))
                  (jump_brings b w _))
                  refl;
            }),
      )

  goto_by : IsGoto e s.at → {r : Progress} {hs' ds' : List ℕ} → JumpsOn e s hs ds hs' ds' r → (f : Progress) → f ≡ progress_behind s (s.at + 3) f.height f.distance s.longest r.noted
      → f.height ≡ get_or hs' (s.at + 3) 0 → f.distance ≡ get_or ds' (s.at + 3) 0 → f.height < 256 → f.height ≤ s.greatest → Turns e s.at hs' ds' (On f)
  goto_by c {r} {hs'} {ds'} w f same height distance small low =
      let k : ℕ = s.at in
      let b = c.jump in
      let p : f.height ≡ get_or hs' (next e k) 0 = height ∙ ap (λ (i : ℕ). get_or hs' i 0) (sym b.next_is) in
      let q : f.distance ≡ get_or ds' (next e k) 0 = distance ∙ ap (λ (i : ℕ). get_or ds' i 0) (sym b.next_is) in
      let st : Stands e (next e k) f.height (s.count + 1) s.greatest r.noted hs' ds' = jump_stands b w low (omega arith) in
      rw same (
        omega arith,
        λ _.
            subst
            (λ (y : ℕ). Branching e (progress_behind s y f.height f.distance s.longest r.noted) hs' ds')
            b.next_is
            (record {
              stands = st;
              near = omega (arith, q, st.low (next e k));
              pending = jump_pending b w;
              quiet = quiet_past (omega (arith, c.kind_is));
              measuring = λ l d v.
                  brought_in f.height f.distance
                  (branch_measured l d v
                  (stepped_goto e k s.height s.distance s.greatest s.longest c.kind_is (jump_effected b w (sym (off_goto e k c.kind_is))) (jump_brings b w _)
                  (record { fault_is = refl; height_is = refl; distance_is = refl; greatest_is = refl; longest_is = refl }))
                  refl)
                  p q (omega arith);
            }),
      )

  pub turned_goto : IsGoto e s.at → {r f : Progress} {hs' ds' : List ℕ} → JumpsOn e s hs ds hs' ds' r → FromJumps hs' ds' r f → Turns e s.at hs' ds' (On f)
  turned_goto c {r} {f} {hs'} {ds'} w x = goto_by c w f (x.same ∙ ap (λ (y : Progress). record y { height = f.height; distance = f.distance }) w.same)
      (x.height_is ∙ ap (λ (y : Progress). get_or hs' y.at 0) w.same) (x.distance_is ∙ ap (λ (y : Progress). get_or ds' y.at 0) w.same) x.small
      (omega (arith, x.low, ap (λ (y : Progress). y.greatest) w.same))

  -- an end
  module _ (x : IsEnd e s.at) where
    end_after : height_after e s.at s.height ≡ s.height
    end_after =
        let c = end_cells (get_or e s.at 0) x.kind_is in
        sym (after_by e s.at s.height 0 0 (needed_row e s.at 0 (sym c.0) (omega (arith, x.kind_is))) (left_row e s.at 0 (sym c.1) (omega (arith, x.kind_is)))) ∙ omega arith

    end_clear : fault1 e s.at ≡ 0
    end_clear = sym (f_plain e s.at (omega (arith, x.next_is, a.stands.inside)) (omega (arith, x.kind_is)) (omega (arith, x.kind_is)) (omega (arith, x.kind_is)))

    end_measured : (y : ℕ) → y ≡ max s.longest (s.distance + 1) → s.greatest ≤ 64 → Decodes e → Aims e → Measuring e (next e s.at) hs ds unreached (s.distance + 1) s.greatest y
    end_measured y p low d v =
        let k : ℕ = s.at in
        let c = end_cells (get_or e k 0) x.kind_is in
        branch_measured low d v
        (stepped_end e k s.height s.distance s.greatest s.longest hs ds y x.kind_is
        (effected e k s.height s.distance s.greatest s.longest (omega (arith, a.stands.highest)) (omega (arith, needed_row e k 0 (sym c.0) (omega (arith, x.kind_is))))
        (omega (arith, end_after, a.stands.highest)) (sym (off_end e k x.kind_is)) s.greatest (omega (arith, end_after, a.stands.highest)))
        p
        (record { fault_is = refl; height_is = refl; distance_is = refl; greatest_is = refl; longest_is = refl }))
        refl

    pub turned_end : s.at + 1 < length e → {f : Progress} → (y : ℕ) → y ≡ max s.longest (s.distance + 1)
        → FromJumps hs ds (record s { at = s.at + 1; count = s.count + 1; longest = y }) f → Turns e s.at hs ds (On f)
    turned_end i {f} y z o =
        let k : ℕ = s.at in
        let p : f.height ≡ get_or hs (next e k) 0 = o.height_is ∙ ap (λ (j : ℕ). get_or hs j 0) (sym x.next_is) in
        let q : f.distance ≡ get_or ds (next e k) 0 = o.distance_is ∙ ap (λ (j : ℕ). get_or ds j 0) (sym x.next_is) in
        let st : Stands e (next e k) f.height (s.count + 1) s.greatest s.noted hs ds
        = stands_next a.stands end_clear (omega (arith, x.next_is)) (λ u. (u, no_jump_end e k x.kind_is)) o.low (omega (arith, o.small)) (omega (arith, a.stands.few_noted))
        a.stands.heights_long a.stands.distances_long (λ j. omega (arith, a.stands.low j)) in
        rw o.same (
          omega arith,
          λ _.
              subst
              (λ (m : ℕ). Branching e (progress_behind s m f.height f.distance y s.noted) hs ds)
              x.next_is
              (record {
                stands = st;
                near = omega (arith, q, st.low (next e k));
                pending = pending_on (next e k) (omega arith) a.pending;
                quiet = quiet_past (omega (arith, x.kind_is));
                measuring = λ l d v. brought_in f.height f.distance (end_measured y z l d v) p q (omega arith);
              }),
        )

    module _ (last : s.at + 1 ≡ length e) (same : s.noted ≡ s.met) (low : s.greatest ≤ 64) where
      last_from : starts_from e s.at ≡ s.at ∷ []
      last_from = from_next e s.at a.stands.inside ∙ ap (λ (ks : List ℕ). s.at ∷ ks) (from_end e (next e s.at) (omega (arith, x.next_is)))

      last_decodes : Decodes e
      last_decodes = (clear_holds (fault1 e) e).0 (sym a.stands.same1 ∙ rw last_from (first_ok (fault1 e) s.at [] end_clear ∙ first_nil (fault1 e)))

      last_aims : Aims e
      last_aims =
          (clear_holds (fault2 e) e).0
          (sym (a.stands.aims (pending_end a.pending same)) ∙ rw last_from (first_ok (fault2 e) s.at [] (no_jump_end e s.at x.kind_is) ∙ first_nil (fault2 e)))

      last_accepted : (y : ℕ) → y ≡ max s.longest (s.distance + 1) → accepted (s.count + 1) s.greatest y ≡ verdict e
      last_accepted y z =
          let q : s.count + length (s.at ∷ []) ≡ length (starts e) = rw last_from at a.stands.count in
          measuring_end (end_measured y z low last_decodes last_aims) (omega (arith, x.next_is)) (s.count + 1) (omega arith)
          ∙ sym (verdict_3 e (omega (arith, a.stands.inside)) a.stands.short last_decodes last_aims)

      -- an end that is the last byte: accepted
      pub accepts_last : (y : ℕ) → y ≡ max s.longest (s.distance + 1) → Accepts e (record { answer = record { count = s.count + 1; greatest = s.greatest; longest = y }; sets = s.sets })
      accepts_last y z = record { accepts = last_accepted y z; quiet = quiet_last e s.at a.stands.start x last a.quiet }

-- the same for straight code, which has no jump: nothing is noted, and nothing is met
pub straight_last : {e : List ℕ} {s : Stop} → Following e s → IsEnd e s.at → s.at + 1 ≡ length e → s.greatest ≤ 64
    → Accepts e (record { answer = record { count = s.count + 1; greatest = s.greatest; longest = s.count + 1 }; sets = s.sets })
straight_last {e} {s} f c last low =
    let u = unmeasured_new e 1024 f.short in
    let j = joining {r = begun s} (branching_start f u) (inl (u.no_height s.at f.inside, refl)) in
    accepts_last j c last refl low (s.count + 1) (omega arith)

-- ---- the answer of the function for a jump
pub jumped_by : {e : List ℕ} {s r : Progress} {hs ds hs' ds' : List ℕ} (n x : ℕ) → IsJump e s.at n → s.at + 3 < length e → s.height ≤ 64 → n ≤ s.height → x ≡ operand e s.at → s.at < x
    → x < length e → r ≡ progress_behind s (s.at + 3) (s.height - n) (s.distance + 1) s.longest r.noted
    → (get_or hs x 0 ≡ unreached → r.noted ≡ s.noted + 1) → (get_or hs x 0 ≢ unreached → r.noted ≡ s.noted) → hs' ≡ arrive (s.height - n) x hs → ds' ≡ raise (s.distance + 1) x ds
    → JumpsOn e s hs ds hs' ds' r
jumped_by {e} {s} {r} {hs} {ds} n x b room low cells p forward inside same new old heights distances =
    let after : s.height - n ≡ height_after e s.at s.height = omega (arith, after_by e s.at s.height n 0 b.needed_is b.left_is) in
    record {
      same = same ∙ ap (λ (i : ℕ). progress_behind s (s.at + 3) i (s.distance + 1) s.longest r.noted) after;
      room = room;
      low = low;
      cells = omega (arith, b.needed_is);
      forward = omega arith;
      inside = omega arith;
      new = λ q. new (ap (λ (i : ℕ). get_or hs i 0) p ∙ q);
      old = λ q. old (λ z. q (ap (λ (i : ℕ). get_or hs i 0) (sym p) ∙ z));
      heights_are = heights ∙ ap (λ (i : ℕ). arrive i x hs) after ∙ ap (λ (i : ℕ). arrive (height_after e s.at s.height) i hs) p;
      distances_are = distances ∙ ap (λ (i : ℕ). raise (s.distance + 1) i ds) p;
    }
