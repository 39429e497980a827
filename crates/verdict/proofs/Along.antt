-- Laws of pass 3: its equations, what a start that passes has, what comes after it, the cells of a table that is passed
-- on, and induction over the pass.
use mathlib.Core.Bool.{Bool, true, false, not, cond, ◌&&◌}
use mathlib.Core.List.{List, [], ◌∷◌}
use mathlib.Core.Path.{◌≡◌, refl, ◌∙◌}
use mathlib.Core.Logic.{◌≢◌}
use Prim.Native.Nat.{ℕ, ◌+◌, ◌≤◌, ◌<◌, max}
use native.Mathlib.Omega.{arith}
use native.Mathlib.Decide.{ℕ_discrete}
use lib.ListN.{get_or, length, set, replicate, length-set, length-replicate, get_or-replicate, get_or-eq_default}
use lib.Seq.{get_or-set_same, get_or-set_other, set_out}
use lib.Dec.{eqb, leb}
use borrow.Author.Tests.{eq-eqb, ne_eqb, eqb-false, ltb-false, le-leb, leb-true, leb-false, not-true}
use Rattle.refusals.specs.Refusal.{Refusal, refusal}
use Rattle.isa.specs.Classes.{kind_goto, kind_if_goto, kind_end}
use Rattle.isa.specs.Decode.{kind_at, next, operand, needed, height_after, jumps, continues}
use Rattle.isa.specs.Starts.{starts_from, is_start}
use Rattle.isa.specs.Walk.{After, target, onward, Walk, stop, step}
use Rattle.logic.proofs.Promises.{cases, no_true}
use Rattle.refusals.proofs.Promises.{none_holds}
use Rattle.isa.proofs.Promises.{start_in, by_starts, from_next, from_end, start_next, start_zero}
use Rattle.verdict.specs.Pass2.{Aims}
use Rattle.verdict.specs.Pass3.{unreached, differing, joined, arrive, raise, at_target, at_next, pass_on, runs_off_end, tests3, fault3, longer, Pass3End, done, stopped, heights_along, heights0, distances0, pass3}
use Rattle.verdict.proofs.Decoded.{aims_target}

-- ---- the equations of pass 3
module _ (f : ℕ → ℕ) (e : List ℕ) where
  pub along_nil : (hs ds : List ℕ) (g l : ℕ) → heights_along f e [] hs ds g l ≡ done hs ds g l
  unfolding heights_along
  along_nil hs ds g l = refl

  module _ (k : ℕ) (ks hs ds : List ℕ) (g l : ℕ) where
    -- a start that nothing has reached is skipped
    pub along_skip : get_or hs k 0 ≡ unreached → heights_along f e (k ∷ ks) hs ds g l ≡ heights_along f e ks hs ds g l
    unfolding heights_along
    along_skip p = rw (eq-eqb (get_or hs k 0) unreached p, heights_along)

    module _ (r : get_or hs k 0 ≢ unreached) where
      -- a reached start without fault passes on its height and its distance
      pub along_pass : fault3 e k (get_or hs k 0) ≡ 0
          → heights_along f e (k ∷ ks) hs ds g l
          ≡ heights_along f e ks
          (pass_on e k (arrive (height_after e k (get_or hs k 0))) hs)
          (pass_on e k (raise (get_or ds k 0 + f k)) ds)
          (max g (height_after e k (get_or hs k 0)))
          (longer e k (get_or ds k 0 + f k) l)
      unfolding heights_along
      along_pass p = rw (ne_eqb (get_or hs k 0) unreached r, heights_along) (rw (eq-eqb (fault3 e k (get_or hs k 0)) 0 p))

      -- a reached start with a fault stops the pass
      pub along_stop : fault3 e k (get_or hs k 0) ≢ 0 → heights_along f e (k ∷ ks) hs ds g l ≡ stopped (refusal (fault3 e k (get_or hs k 0)) k)
      unfolding heights_along
      along_stop p = rw (ne_eqb (get_or hs k 0) unreached r, heights_along) (rw (ne_eqb (fault3 e k (get_or hs k 0)) 0 p))

-- ---- a start without fault
pub record Fine (e : List ℕ) (k h : ℕ) : Type 0 where
  pub same : h ≢ differing
  pub cells : needed e k ≤ h
  pub room : height_after e k h ≤ 64
  pub stays : continues e k ≡ true → next e k < length e

-- where no test of pass 3 holds
pub fine : (e : List ℕ) (k h : ℕ) → fault3 e k h ≡ 0 → Fine e k h
unfolding fault3 runs_off_end
fine e k h q =
    let p = none_holds (tests3 e k h) tt q in
    record {
      same = eqb-false h differing p.0;
      cells = ltb-false h (needed e k) p.1.0;
      room = ltb-false 64 (height_after e k h) p.1.1.0;
      stays = λ c. leb-false (length e) (next e k) (rw c at p.1.1.1.0);
    }

-- ---- what comes after a start
both : (a b : Bool) → (a && b) ≡ true → (a ≡ true) × (b ≡ true)
both true b p = (refl, p)
both false b p = no_true p

module _ (e : List ℕ) (k : ℕ) where
  pub jumps_true : kind_goto ≤ kind_at e k → kind_at e k ≤ kind_if_goto → jumps e k ≡ true
  jumps_true l h = rw (le-leb kind_goto (kind_at e k) l, le-leb (kind_at e k) kind_if_goto h)

  pub continues_true : kind_at e k ≢ kind_goto → kind_at e k ≢ kind_end → continues e k ≡ true
  continues_true g n = rw (ne_eqb (kind_at e k) kind_goto g, ne_eqb (kind_at e k) kind_end n)

  pub after_target : (m : ℕ) → jumps e k ≡ true → m ≡ operand e k → After e k m
  after_target m j p =
      let b = both (leb kind_goto (kind_at e k)) (leb (kind_at e k) kind_if_goto) j in
      target (leb-true kind_goto (kind_at e k) b.0) (leb-true (kind_at e k) kind_if_goto b.1) p

  pub after_next : (m : ℕ) → continues e k ≡ true → m ≡ next e k → After e k m
  after_next m c p =
      let b = both (not (eqb (kind_at e k) kind_goto)) (not (eqb (kind_at e k) kind_end)) c in
      onward
      (eqb-false (kind_at e k) kind_goto (not-true (eqb (kind_at e k) kind_goto) b.0))
      (eqb-false (kind_at e k) kind_end (not-true (eqb (kind_at e k) kind_end) b.1))
      p

module _ {e : List ℕ} (aims : Aims e) where
  -- what comes after a start has a greater offset
  pub after_later : {k m : ℕ} → is_start e k ≡ true → After e k m → k < m
  after_later {k} s (target l h p) = omega (arith, (aims_target e k aims s l h).1)
  after_later s (onward g n p) = omega arith

  -- what comes after a start, within the bytes, is a start
  pub later_start : {k m : ℕ} → is_start e k ≡ true → After e k m → m < length e → is_start e m ≡ true
  later_start {k} s (target l h p) i = rw p (aims_target e k aims s l h).0
  later_start {k} s (onward g n p) i = rw p (start_next e k s (rw p at i))

  -- what comes after a start without fault stays within the bytes
  pub after_in : {k h m : ℕ} → Fine e k h → is_start e k ≡ true → After e k m → m < length e
  after_in {k} t s (target l h p) = rw p (start_in e (operand e k) (aims_target e k aims s l h).0)
  after_in {k} t s (onward g n p) = rw p (t.stays (continues_true e k g n))

  pub after_start : {k h m : ℕ} → Fine e k h → is_start e k ≡ true → After e k m → is_start e m ≡ true
  after_start t s a = later_start s a (after_in t s a)

  -- a walk ends where it began or at a greater offset
  pub walk_later : {k h j u : ℕ} {w : List ℕ} → Walk e k h w j u → k ≤ j
  walk_later (stop s) = omega arith
  walk_later (step s a w) = omega (arith, after_later s a, walk_later w)

  -- each instruction of a walk has a byte of its own
  pub walk_length : {k h j u : ℕ} {w : List ℕ} → Walk e k h w j u → length w + k ≤ j + 1
  walk_length (stop s) = omega arith
  walk_length (step s a w) = omega (arith, after_later s a, walk_length w)

-- ---- what a height makes of a cell at which it arrives
module _ (c h : ℕ) where
  pub joined_first : c ≡ unreached → joined c h ≡ h
  joined_first p = rw (eq-eqb c unreached p)

  pub joined_same : c ≡ h → joined c h ≡ h
  joined_same p = elim (ℕ_discrete c unreached) [ yes q ↦ joined_first q | no q ↦ rw (ne_eqb c unreached q, eq-eqb c h p) ]

  pub joined_differing : c ≢ unreached → c ≢ h → joined c h ≡ differing
  joined_differing q p = rw (ne_eqb c unreached q, ne_eqb c h p)

-- ---- what a start makes of the longest walk
module _ (e : List ℕ) (k d l : ℕ) where
  pub longer_end : kind_at e k ≡ kind_end → longer e k d l ≡ max l d
  unfolding longer
  longer_end p = rw (eq-eqb (kind_at e k) kind_end p)

  pub longer_other : kind_at e k ≢ kind_end → longer e k d l ≡ l
  unfolding longer
  longer_other p = rw (ne_eqb (kind_at e k) kind_end p)

-- ---- the cells of a table that is passed on
-- f changes one cell, and v is what it makes of the number there
pub record AtCell (v : ℕ → ℕ) (f : ℕ → List ℕ → List ℕ) : Type 0 where
  pub is : (m : ℕ) (l : List ℕ) → f m l ≡ set l m (v (get_or l m 0))

pub arrives : (h : ℕ) → AtCell (λ c. joined c h) (arrive h)
unfolding arrive
arrives h = record { is = λ m l. refl }

pub raises : (d : ℕ) → AtCell (λ c. max c d) (raise d)
unfolding raise
raises d = record { is = λ m l. refl }

module _ {v : ℕ → ℕ} {f : ℕ → List ℕ → List ℕ} (a : AtCell v f) where
  -- ---- the change where a test b holds
  pub if_length : (b : Bool) (m : ℕ) (l : List ℕ) → length (cond b (f m l) l) ≡ length l
  if_length true m l = rw (a.is m l) (length-set l m (v (get_or l m 0)))
  if_length false m l = refl

  pub if_kept : (b : Bool) (m j : ℕ) (l : List ℕ) (P : ℕ → Type 0) → (b ≡ true → j ≡ m → (c : ℕ) → P c → P (v c)) → P (get_or l j 0) → P (get_or (cond b (f m l) l) j 0)
  if_kept true m j l P k p =
      rw (a.is m l)
      (elim (ℕ_discrete j m) [
        | no q ↦ rw (get_or-set_other l m j (v (get_or l m 0)) 0 q) p
        | yes q ↦ cases m (length l)
            (λ r. rw (q, get_or-set_same l m (v (get_or l m 0)) 0 r) (k refl q (get_or l m 0) (rw q at p)))
            (λ r. rw (set_out l m (v (get_or l m 0)) r) p)
      ])
  if_kept false m j l P k p = p

  if_changed : (b : Bool) (m j : ℕ) (l : List ℕ) (P : ℕ → Type 0) → b ≡ true → j ≡ m → j < length l → ((c : ℕ) → P (v c)) → P (get_or (cond b (f m l) l) j 0)
  if_changed true m j l P t q h k = rw (a.is m l, q, get_or-set_same l m (v (get_or l m 0)) 0 (rw q at h)) (k (get_or l m 0))
  if_changed false m j l P t q h k = no_true t

  module _ (e : List ℕ) (k : ℕ) (l : List ℕ) where
    -- the table stays as long as it was
    pub pass_length : length (pass_on e k f l) ≡ length l
    unfolding at_target at_next
    pass_length = if_length (continues e k) (next e k) (at_target e k f l) ∙ if_length (jumps e k) (operand e k) l

    -- a property of the cell at j holds still, if the change keeps it where j may come after k
    pub cell_kept : (j : ℕ) (P : ℕ → Type 0) → (After e k j → (c : ℕ) → P c → P (v c)) → P (get_or l j 0) → P (get_or (pass_on e k f l) j 0)
    unfolding at_target at_next
    cell_kept j P h p =
        if_kept (continues e k) (next e k) j (at_target e k f l) P (λ t q. h (after_next e k j t q))
        (if_kept (jumps e k) (operand e k) j l P (λ t q. h (after_target e k j t q)) p)

    -- a cell that may not come after k stays as it was
    pub cell_other : (j : ℕ) → (After e k j → ⊥) → get_or (pass_on e k f l) j 0 ≡ get_or l j 0
    cell_other j n = cell_kept j (λ (c : ℕ). c ≡ get_or l j 0) (λ t. absurd (n t)) refl

    -- a property that the change gives to every number holds of the cells that may come after k
    pub cell_changed : (j : ℕ) (P : ℕ → Type 0) → ((c : ℕ) → P (v c)) → After e k j → j < length l → P (get_or (pass_on e k f l) j 0)
    unfolding at_target at_next
    cell_changed j P h (target b c q) r =
        if_kept (continues e k) (next e k) j (at_target e k f l) P (λ t s c p. h c)
        (if_changed (jumps e k) (operand e k) j l P (jumps_true e k b c) q r h)
    cell_changed j P h (onward b c q) r =
        if_changed (continues e k) (next e k) j (at_target e k f l) P (continues_true e k b c) q
        (rw (if_length (jumps e k) (operand e k) l) r) h

    -- the cells up to a start k stay as they were
    pub cell_before : Aims e → is_start e k ≡ true → (j : ℕ) → j ≤ k → get_or (pass_on e k f l) j 0 ≡ get_or l j 0
    cell_before aims s j h = cell_other j (λ t. omega (arith, after_later aims s t))

-- ---- the tables with which the pass begins
-- everywhere in a table of one value, and past its end, stands the value
pub replicate_at : {A : Type 0} (n j : ℕ) (x : A) → get_or (replicate n x) j x ≡ x
replicate_at n j x =
    cases j n (λ h. get_or-replicate n j x x h) (λ h. get_or-eq_default (replicate n x) x {n = j} (omega (arith, length-replicate n x)))

pub heights0_length : length heights0 ≡ 1024
unfolding heights0
heights0_length = length-set (replicate 1024 unreached) 0 0 ∙ length-replicate {A = ℕ} 1024 unreached

pub heights0_zero : get_or heights0 0 0 ≡ 0
unfolding heights0
heights0_zero = get_or-set_same (replicate 1024 unreached) 0 0 0 (omega (arith, length-replicate {A = ℕ} 1024 unreached))

pub heights0_other : (j : ℕ) → j ≢ 0 → j < 1024 → get_or heights0 j 0 ≡ unreached
unfolding heights0
heights0_other j n h = get_or-set_other (replicate 1024 unreached) 0 j 0 0 n ∙ get_or-replicate 1024 j unreached 0 h

pub distances0_length : length distances0 ≡ 1024
unfolding distances0
distances0_length = length-replicate {A = ℕ} 1024 0

pub distances0_at : (j : ℕ) → get_or distances0 j 0 ≡ 0
unfolding distances0
distances0_at j = replicate_at 1024 j 0

-- ---- induction over the pass, for a property of the offset whose turn it is, of both tables, of the greatest height
-- and of the longest walk
pub record Preserved (f : ℕ → ℕ) (e : List ℕ) (P : ℕ → List ℕ → List ℕ → ℕ → ℕ → Type 0) : Type 0 where
  pub skip : {i : ℕ} {hs ds : List ℕ} {g l : ℕ} → P i hs ds g l → is_start e i ≡ true → get_or hs i 0 ≡ unreached → P (next e i) hs ds g l
  pub pass : {i : ℕ} {hs ds : List ℕ} {g l : ℕ} → P i hs ds g l → is_start e i ≡ true → get_or hs i 0 ≢ unreached → fault3 e i (get_or hs i 0) ≡ 0
      → P (next e i)
      (pass_on e i (arrive (height_after e i (get_or hs i 0))) hs)
      (pass_on e i (raise (get_or ds i 0 + f i)) ds)
      (max g (height_after e i (get_or hs i 0)))
      (longer e i (get_or ds i 0 + f i) l)

-- the pass has gone over all starts
pub record Finished (e : List ℕ) (P : ℕ → List ℕ → List ℕ → ℕ → ℕ → Type 0) (hs ds : List ℕ) (g l : ℕ) : Type 0 where
  pub end : ℕ
  pub past : length e ≤ end
  pub holds : P end hs ds g l

-- the pass has stopped at a start with the refusal x
pub record Halted (e : List ℕ) (P : ℕ → List ℕ → List ℕ → ℕ → ℕ → Type 0) (x : Refusal) : Type 0 where
  pub hs : List ℕ
  pub ds : List ℕ
  pub g : ℕ
  pub l : ℕ
  pub holds : P x.offset hs ds g l
  pub start : is_start e x.offset ≡ true
  pub reached : get_or hs x.offset 0 ≢ unreached
  pub faulty : fault3 e x.offset (get_or hs x.offset 0) ≢ 0
  pub number_is : x.number ≡ fault3 e x.offset (get_or hs x.offset 0)
  pub plain : x ≡ refusal x.number x.offset

-- how a pass ends that keeps P
abbrev pub EndsKeeping : List ℕ → (ℕ → List ℕ → List ℕ → ℕ → ℕ → Type 0) → Pass3End → Type 0
EndsKeeping e P (done hs ds g l) = Finished e P hs ds g l
EndsKeeping e P (stopped x) = Halted e P x

module _ {f : ℕ → ℕ} {e : List ℕ} {P : ℕ → List ℕ → List ℕ → ℕ → ℕ → Type 0} (keeps : Preserved f e P) where
  along_ends : (i : ℕ) (hs ds : List ℕ) (g l : ℕ) → P i hs ds g l → (i < length e → is_start e i ≡ true) → EndsKeeping e P (heights_along f e (starts_from e i) hs ds g l)
  along_ends =
      by_starts e
      (λ (i : ℕ). (hs ds : List ℕ) (g l : ℕ) → P i hs ds g l → (i < length e → is_start e i ≡ true) → EndsKeeping e P (heights_along f e (starts_from e i) hs ds g l))
      (λ i h hs ds g l p s. rw (from_end e i h, along_nil f e hs ds g l) (record { end = i; past = h; holds = p }))
      (λ i h rec hs ds g l p s.
      rw (from_next e i h)
      (elim (ℕ_discrete (get_or hs i 0) unreached) [
        | yes q ↦ rw (along_skip f e i (starts_from e (next e i)) hs ds g l q)
            (rec hs ds g l (keeps.skip p (s h) q) (start_next e i (s h)))
        | no q ↦ elim (ℕ_discrete (fault3 e i (get_or hs i 0)) 0) [
          | yes r ↦ rw (along_pass f e i (starts_from e (next e i)) hs ds g l q r)
              (rec _ _ _ _ (keeps.pass p (s h) q r) (start_next e i (s h)))
          | no r ↦ rw (along_stop f e i (starts_from e (next e i)) hs ds g l q r)
              (record { hs = hs; ds = ds; g = g; l = l; holds = p; start = s h; reached = q; faulty = r; number_is = refl; plain = refl })
        ]
      ]))

  -- a property that holds at first, and that each turn keeps, holds where the pass ends
  pub pass3_ends : P 0 heights0 distances0 0 0 → EndsKeeping e P (pass3 f e)
  unfolding pass3
  pass3_ends p = along_ends 0 heights0 distances0 0 0 p (start_zero e)
