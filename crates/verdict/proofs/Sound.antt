-- What pass 3 finds holds of every walk: soundness of the heights, of the greatest height and of the longest walk.
use mathlib.Core.Bool.{true}
use mathlib.Core.List.{List}
use mathlib.Core.Path.{◌≡◌, refl, sym, ◌∙◌}
use mathlib.Core.Logic.{◌⊎◌, inl, inr, ⊎_elim, ◌≢◌}
use Prim.Native.Nat.{ℕ, ◌+◌, ◌≤◌, ◌<◌, max}
use native.Mathlib.Omega.{arith}
use native.Mathlib.Decide.{ℕ_discrete}
use lib.ListN.{get_or, length}
use borrow.Author.Tests.{eq-eqb}
use Rattle.refusals.specs.Refusal.{Refusal, refusal}
use Rattle.isa.specs.Classes.{kind_end}
use Rattle.isa.specs.Decode.{kind_at, next, height_after}
use Rattle.isa.specs.Starts.{is_start}
use Rattle.isa.specs.Walk.{After, Walk, stop, step, weigh}
use Rattle.isa.proofs.Promises.{start_in, before_next, walk_last}
use Rattle.verdict.specs.Pass2.{Aims}
use Rattle.verdict.specs.Pass3.{unreached, differing, joined, arrive, raise, pass_on, fault3, longer, done, stopped, heights0, distances0, pass3}
use Rattle.verdict.specs.Acceptance.{WalksFit, OneHeight, ToEnd}
use Rattle.verdict.proofs.Along.{Fine, fine, after_later, after_start, walk_later, joined_first, joined_same, joined_differing, longer_end, longer_other, arrives, raises, pass_length, cell_kept, cell_changed, cell_before, heights0_length, heights0_zero, distances0_length, Preserved, Finished, EndsKeeping, pass3_ends}

-- ---- a cell at which the height h has arrived: it is h, or heights differ there
abbrev Arrived : ℕ → ℕ → Type 0
Arrived h c = (c ≡ h) ⊎ (c ≡ differing)

arrived_new : (h c : ℕ) → Arrived h (joined c h)
arrived_new h c =
    elim (ℕ_discrete c unreached) [
      | yes p ↦ inl (joined_first c h p)
      | no p ↦ elim (ℕ_discrete c h) [ yes q ↦ inl (joined_same c h q) | no q ↦ inr (joined_differing c h p q) ]
    ]

-- another height leaves it so
arrived_kept : (h t c : ℕ) → h ≤ 64 → Arrived h c → Arrived h (joined c t)
arrived_kept h t c l a =
    elim (ℕ_discrete c t) [
      | yes q ↦ rw (joined_same c t q, ← q) a
      | no q ↦ inr (joined_differing c t (⊎_elim (λ (p : c ≡ h). omega arith) (λ (p : c ≡ differing). omega arith) a) q)
    ]

-- the longest walk so far does not become shorter
longer_grows : (e : List ℕ) (k d l : ℕ) → l ≤ longer e k d l
longer_grows e k d l = elim (ℕ_discrete (kind_at e k) kind_end) [ yes p ↦ omega (arith, longer_end e k d l p) | no p ↦ omega (arith, longer_other e k d l p) ]

module _ (f : ℕ → ℕ) (e : List ℕ) where
  -- what holds of a reached start k whose turn is over
  record Settled (k : ℕ) (hs ds : List ℕ) (g l : ℕ) : Type 0 where
    pub clear : fault3 e k (get_or hs k 0) ≡ 0
    pub height : (m : ℕ) → After e k m → Arrived (height_after e k (get_or hs k 0)) (get_or hs m 0)
    pub distance : (m : ℕ) → After e k m → get_or ds k 0 + f k ≤ get_or ds m 0
    pub high : height_after e k (get_or hs k 0) ≤ g
    pub long : kind_at e k ≡ kind_end → get_or ds k 0 + f k ≤ l

  -- what holds before the turn of i: every reached start before it is settled
  record Sound (i : ℕ) (hs ds : List ℕ) (g l : ℕ) : Type 0 where
    pub heights : length hs ≡ 1024
    pub distances : length ds ≡ 1024
    pub begin : get_or hs 0 0 ≡ 0
    pub before : (k : ℕ) → k < i → is_start e k ≡ true → get_or hs k 0 ≢ unreached → Settled k hs ds g l

  -- it holds before the first turn
  sound_start : Sound 0 heights0 distances0 0 0
  sound_start = record {
    heights = heights0_length;
    distances = distances0_length;
    begin = heights0_zero;
    before = λ k h. absurd (omega arith);
  }

-- the offset k is reached with height h, by the table
record HeightIn (hs : List ℕ) (g k h : ℕ) : Type 0 where
  pub height : get_or hs k 0 ≡ h
  pub low : h ≤ 64
  pub most : h ≤ g

module _ {f : ℕ → ℕ} {e : List ℕ} (short : length e ≤ 1024) (aims : Aims e) where
  -- ---- each turn keeps it
  module _ {i : ℕ} {hs ds : List ℕ} {g l : ℕ} (s : Sound f e i hs ds g l) (t : is_start e i ≡ true) where
    skipped : get_or hs i 0 ≡ unreached → Sound f e (next e i) hs ds g l
    skipped p = record {
      heights = s.heights;
      distances = s.distances;
      begin = s.begin;
      before = before_next e (λ (k : ℕ). get_or hs k 0 ≢ unreached → Settled f e k hs ds g l) i t s.before (λ r. absurd (r p));
    }

    module _ (r : get_or hs i 0 ≢ unreached) (c : fault3 e i (get_or hs i 0) ≡ 0) where
      abbrev h' : ℕ
      h' = height_after e i (get_or hs i 0)

      abbrev d' : ℕ
      d' = get_or ds i 0 + f i

      abbrev hs' : List ℕ
      hs' = pass_on e i (arrive h') hs

      abbrev ds' : List ℕ
      ds' = pass_on e i (raise d') ds

      -- the cells up to i stay as they were
      same_height : (k : ℕ) → k ≤ i → get_or hs' k 0 ≡ get_or hs k 0
      same_height = cell_before (arrives h') e i hs aims t

      same_distance : (k : ℕ) → k ≤ i → get_or ds' k 0 ≡ get_or ds k 0
      same_distance = cell_before (raises d') e i ds aims t

      settled_before : (k : ℕ) → k ≤ i → Settled f e k hs ds g l → Settled f e k hs' ds' (max g h') (longer e i d' l)
      settled_before k q z = record {
        clear = rw (same_height k q) z.clear;
        height = λ m a. rw (same_height k q)
            (cell_kept (arrives h') e i hs m (Arrived (height_after e k (get_or hs k 0)))
            (λ b x. arrived_kept (height_after e k (get_or hs k 0)) h' x (fine e k (get_or hs k 0) z.clear).room) (z.height m a));
        distance = λ m a. rw (same_distance k q)
            (cell_kept (raises d') e i ds m (λ (x : ℕ). get_or ds k 0 + f k ≤ x) (λ b x p. omega arith) (z.distance m a));
        high = rw (same_height k q) (omega (arith, z.high));
        long = λ p. rw (same_distance k q) (omega (arith, z.long p, longer_grows e i d' l));
      }

      after_short : (m : ℕ) → After e i m → m < 1024
      after_short m a = omega (arith, start_in e m (after_start aims (fine e i (get_or hs i 0) c) t a))

      settled_here : Settled f e i hs' ds' (max g h') (longer e i d' l)
      settled_here = record {
        clear = rw (same_height i (omega arith)) c;
        height = λ m a. rw (same_height i (omega arith))
            (cell_changed (arrives h') e i hs m (Arrived h') (arrived_new h') a (rw s.heights (after_short m a)));
        distance = λ m a. rw (same_distance i (omega arith))
            (cell_changed (raises d') e i ds m (λ (x : ℕ). d' ≤ x) (λ x. omega arith) a (rw s.distances (after_short m a)));
        high = rw (same_height i (omega arith)) (omega arith);
        long = λ p. rw (same_distance i (omega arith)) (omega (arith, longer_end e i d' l p));
      }

      passed : Sound f e (next e i) hs' ds' (max g h') (longer e i d' l)
      passed = record {
        heights = pass_length (arrives h') e i hs ∙ s.heights;
        distances = pass_length (raises d') e i ds ∙ s.distances;
        begin = same_height 0 (omega arith) ∙ s.begin;
        before = before_next e (λ (k : ℕ). get_or hs' k 0 ≢ unreached → Settled f e k hs' ds' (max g h') (longer e i d' l)) i t
            (λ k q b n. settled_before k (omega arith) (s.before k q b (rw (same_height k (omega arith)) at n)))
            (λ n. settled_here);
      }

  sound : Preserved f e (Sound f e)
  sound = record { skip = skipped; pass = passed }

  -- ---- the walks to starts before i
  module _ {i : ℕ} {hs ds : List ℕ} {g l : ℕ} (s : Sound f e i hs ds g l) where
    reached_zero : HeightIn hs g 0 0
    reached_zero = record { height = s.begin; low = omega arith; most = omega arith }

    -- what is known of a reached start before i
    settled : {k h : ℕ} → HeightIn hs g k h → is_start e k ≡ true → k < i → Settled f e k hs ds g l
    settled {k} r t q = s.before k q t (λ p. omega (arith, r.height, r.low))

    fine_at : {k h : ℕ} → HeightIn hs g k h → is_start e k ≡ true → k < i → Fine e k h
    fine_at {k} {h} r t q = fine e k h (rw r.height at (settled r t q).clear)

    -- heights do not differ at what comes after a reached start
    reached_next : {k h m : ℕ} → HeightIn hs g k h → is_start e k ≡ true → After e k m → m < i → HeightIn hs g m (height_after e k h)
    reached_next {k} {h} {m} r t a q =
        let p : k < m = after_later aims t a in
        let z = settled r t (omega arith) in
        let y = fine_at r t (omega arith) in
        record {
          height = ⊎_elim (λ (x : get_or hs m 0 ≡ height_after e k h). x)
              (λ (x : get_or hs m 0 ≡ differing). absurd ((fine e m (get_or hs m 0) (s.before m q (after_start aims y t a) (λ w. omega arith)).clear).same x))
              (rw r.height at (z.height m a));
          low = y.room;
          most = rw r.height at z.high;
        }

    -- a walk arrives with the height in the table
    reached_by : {k h j u : ℕ} {w : List ℕ} → Walk e k h w j u → j < i → HeightIn hs g k h → HeightIn hs g j u
    reached_by (stop t) q r = r
    reached_by (step t a w) q r = reached_by w q (reached_next r t a (omega (arith, walk_later aims w)))

    -- a walk adds at most what the distances differ by, and the weight of its last start
    weight_by : {k h j u : ℕ} {w : List ℕ} → Walk e k h w j u → j < i → HeightIn hs g k h → get_or ds k 0 + weigh f w ≤ get_or ds j 0 + f j
    unfolding weigh
    weight_by (stop t) q r = omega arith
    weight_by (step {m = m} t a w) q r =
        let p = after_later aims t a in
        let y = walk_later aims w in
        omega (arith, (settled r t (omega arith)).distance m a, weight_by w q (reached_next r t a (omega arith)))

    -- what is known of the last start of a walk from offset 0
    module _ {w : List ℕ} {j u : ℕ} (x : Walk e 0 0 w j u) (q : j < i) where
      reached : HeightIn hs g j u
      reached = reached_by x q reached_zero

      last_fine : Fine e j u
      last_fine = fine_at reached (walk_last x) q

      last_high : height_after e j u ≤ g
      last_high = rw reached.height at (settled reached (walk_last x) q).high

      last_long : kind_at e j ≡ kind_end → weigh f w ≤ l
      last_long p = omega (arith, weight_by x q reached_zero, (settled reached (walk_last x) q).long p)

    -- ---- the walks to i, where heights do not differ there
    module _ (same : get_or hs i 0 ≢ differing) where
      -- a start on such a walk
      record Near (k h : ℕ) : Type 0 where
        pub lower : k < i → HeightIn hs g k h
        pub here : k ≡ i → get_or hs i 0 ≡ h

      near_zero : Near 0 0
      near_zero = record { lower = λ q. reached_zero; here = λ p. rw (← p) s.begin }

      near_next : {k h m : ℕ} → Near k h → k < i → is_start e k ≡ true → After e k m → Near m (height_after e k h)
      near_next {k} {h} {m} n q t a = record {
        lower = reached_next (n.lower q) t a;
        here = λ p. ⊎_elim (λ (x : get_or hs m 0 ≡ height_after e k h). rw (← p) x) (λ (x : get_or hs m 0 ≡ differing). absurd (same (rw (← p) x)))
            (rw (n.lower q).height at ((settled (n.lower q) t q).height m a));
      }

      arrives_by : {k h j u : ℕ} {w : List ℕ} → Walk e k h w j u → j ≡ i → Near k h → get_or hs i 0 ≡ u
      arrives_by (stop t) p n = n.here p
      arrives_by (step t a w) p n = arrives_by w p (near_next n (omega (arith, after_later aims t a, walk_later aims w)) t a)

      -- they arrive at one height
      one_height_at : OneHeight e i
      one_height_at = record { same = λ x y. sym (arrives_by x refl near_zero) ∙ arrives_by y refl near_zero }

    -- the walks to starts before i fit
    walks_fit : (n : ℕ) → n ≤ i → WalksFit e n
    walks_fit n p = record {
      cells = λ x q. (last_fine x (omega arith)).cells;
      room = λ x q. (last_fine x (omega arith)).room;
      one_height = λ x y q. sym (reached x (omega arith)).height ∙ (reached y (omega arith)).height;
      stays = λ x q a. start_in e _ (after_start aims (last_fine x (omega arith)) (walk_last x) a);
    }

-- ---- what the pass finds
module _ (f : ℕ → ℕ) (e : List ℕ) (short : length e ≤ 1024) (aims : Aims e) where
  sound_ends : EndsKeeping e (Sound f e) (pass3 f e)
  sound_ends = pass3_ends (sound short aims) (sound_start f e)

  -- where it stops, the walks to lower starts fit
  pub walks_fit_stopped : {x : Refusal} → pass3 f e ≡ stopped x → WalksFit e x.offset
  walks_fit_stopped {x} p = walks_fit short aims (rw p at sound_ends).holds x.offset (omega arith)

  -- with a number and an offset, and nothing else
  pub stopped_plain : {x : Refusal} → pass3 f e ≡ stopped x → x ≡ refusal x.number x.offset
  stopped_plain p = (rw p at sound_ends).plain

  eight : (k h : ℕ) → h ≡ differing → fault3 e k h ≡ 8
  unfolding fault3
  eight k h q = rw (eq-eqb h differing q)

  -- and those to where it stops arrive at one height, where the number is not 8
  pub one_height_stopped : {x : Refusal} → pass3 f e ≡ stopped x → 8 < x.number → OneHeight e x.offset
  one_height_stopped {x} p h =
      let t = rw p at sound_ends in
      one_height_at short aims t.holds (λ q. omega (arith, t.number_is, eight x.offset (get_or t.hs x.offset 0) q))

  module _ {hs ds : List ℕ} {g l : ℕ} (p : pass3 f e ≡ done hs ds g l) where
    finished : Finished e (Sound f e) hs ds g l
    finished = rw p at sound_ends

    before_end : {w : List ℕ} {j u : ℕ} → Walk e 0 0 w j u → j < finished.end
    before_end {j = j} x = omega (arith, start_in e j (walk_last x), finished.past)

    -- where it accepts, all walks fit
    pub walks_fit_done : WalksFit e (length e)
    walks_fit_done = walks_fit short aims finished.holds (length e) finished.past

    -- no height on a walk is more than the greatest height
    pub greatest_most : {w : List ℕ} {j u : ℕ} → Walk e 0 0 w j u → (u ≤ g) × (height_after e j u ≤ g)
    greatest_most x = ((reached short aims finished.holds x (before_end x)).most, last_high short aims finished.holds x (before_end x))

    -- no walk to an end weighs more than the longest
    pub heaviest_most : {w : List ℕ} → ToEnd e w → weigh f w ≤ l
    heaviest_most x = last_long short aims finished.holds x.2 (before_end x.2) x.3
