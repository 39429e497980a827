-- The loop over the starts: how it begins, what a turn keeps, and what holds when it ends.
use mathlib.Core.Bool.{true}
use mathlib.Core.List.{List, [], ◌∷◌, ◌++◌}
use mathlib.Core.Path.{◌≡◌, refl, ap, sym, ◌∙◌, subst}
use mathlib.Core.Logic.{◌≢◌, ⊎_elim}
use Prim.Native.Nat.{ℕ, zero, suc, ◌+◌, ◌-◌, ◌≤◌, ◌<◌}
use native.Mathlib.Omega.{arith}
use native.Mathlib.Decide.{ℕ_discrete}
use lib.ListN.{get_or, length, set, replicate, length-set, length-replicate, get_or-replicate}
use lib.Seq.{get_or-set_same, get_or-set_other}
use Rattle.isa.specs.Decode.{next, height_after}
use Rattle.isa.specs.Joining.Rows.{IsRow}
use Rattle.isa.specs.declared.Row.{Row}
use Rattle.isa.specs.Starts.{is_start}
use Rattle.isa.specs.Walk.{After, Walk, stop, step}
use Rattle.isa.proofs.Promises.{start_zero, start_in, start_next, before_next, walk_last}
use Rattle.verdict.specs.Pass3.{unreached}
use Rattle.verdict.specs.Acceptance.{Acceptable, Accepted, Ready}
use Rattle.verdict.proofs.Promises.{accepted_means, fitting_accepted, begins, ready, goes_on, goes_forward}
use Rattle.std.proofs.Common.{Option, Some, None}
use Rattle.std.proofs.lemmas.Option.{none-some}
use Rattle.heights.specs.Arrivals.{marked, NoMark, Arrivals}
use Rattle.heights.specs.Joining.Filling.{Room, Stored, Filling}
use Rattle.heights.proofs.Storing.{row_cells, after_row, marked_at, marked_set, no_mark_set}

-- ---- what the verifier's page says of the last instruction of a walk
module _ {e : List ℕ} (a : Acceptable e) where
  accepted_is : (let f = fitting_accepted e a in Accepted e f.0 f.1 f.2)
  accepted_is = accepted_means e (fitting_accepted e a).3

  module _ {w : List ℕ} {j u : ℕ} (x : Walk e 0 0 w j u) where
    last_ready : Ready e j u
    last_ready = ready e accepted_is x

    onward_walk : {m : ℕ} → After e j m → Walk e 0 0 (w ++ (m ∷ [])) m (height_after e j u)
    onward_walk = goes_on e accepted_is x

    forward : {m : ℕ} → After e j m → j < m
    forward = goes_forward e accepted_is x

    after_cell : (m : ℕ) → After e j m → m < 1024
    after_cell m t = omega (arith, start_in e m (walk_last (onward_walk t)), a.sized.short)

    -- two walks to one instruction arrive at one height
    one_height : {v : List ℕ} {t : ℕ} → Walk e 0 0 v j t → t ≡ u
    one_height y = a.walks.one_height y x (start_in e j (walk_last x))

-- what a reached start k passes on, where its row has n and l for the cells needed and left
pub record PassesOn (e : List ℕ) (k : ℕ) (hs : List ℕ) (n l : ℕ) : Type 0 where
  pub cells : n ≤ get_or hs k 0
  pub after : get_or hs k 0 - n + l ≡ height_after e k (get_or hs k 0)
  pub low : height_after e k (get_or hs k 0) ≤ 64
  pub room : Room e k hs

-- ---- before the first turn
filling_start : {e : List ℕ} → Acceptable e → Filling e 0 (set (replicate 1024 unreached) 0 0)
filling_start {e} a =
    let l = length-replicate {A = ℕ} 1024 unreached in
    let z = get_or-set_same (replicate 1024 unreached) 0 0 0 (omega arith) in
    record {
      acceptable = a;
      start = start_zero e;
      long = length-set (replicate 1024 unreached) 0 0 ∙ l;
      begin = z;
      shown = λ j h n.
          elim (ℕ_discrete j 0) [
            | yes p ↦ (0 ∷ [], rw (p, z) (begins e (accepted_is a)))
            | no p ↦ absurd (n (get_or-set_other (replicate 1024 unreached) 0 j 0 0 p ∙ get_or-replicate 1024 j unreached 0 h))
          ];
      told = λ k h. absurd (omega arith);
    }

none_at : (n j : ℕ) → get_or (replicate {A = Option ℕ} n None) j None ≡ None
none_at zero j = refl
none_at (suc n) zero = refl
none_at (suc n) (suc j) = none_at n j

pub marked_none : (n : ℕ) → marked (replicate n None) ≡ replicate n unreached
marked_none zero = refl
marked_none (suc n) = ap (λ (l : List ℕ). unreached ∷ l) (marked_none n)

pub no_mark_none : (n : ℕ) → NoMark (replicate n None)
no_mark_none n j h p = absurd (none-some h (sym (none_at n j) ∙ p))

pub no_mark_start : NoMark (set (replicate 1024 None) 0 (Some 0))
no_mark_start = no_mark_set (replicate 1024 None) (no_mark_none 1024) 0 0 (omega (arith, length-replicate {A = Option ℕ} 1024 None)) (omega arith)

pub filling_begin : {e : List ℕ} → Acceptable e → Filling e 0 (marked (set (replicate 1024 None) 0 (Some 0)))
filling_begin {e} a = subst (Filling e 0) (sym (marked_set (replicate 1024 None) 0 0 ∙ ap (λ (l : List ℕ). set l 0 0) (marked_none 1024))) (filling_start a)

module _ {e : List ℕ} {i : ℕ} {hs : List ℕ} (f : Filling e i hs) where
  -- what is known of a start whose cell is not 255
  module _ (k : ℕ) (s : is_start e k ≡ true) (r : get_or hs k 0 ≢ unreached) where
    walk_to : (w : List ℕ) × Walk e 0 0 w k (get_or hs k 0)
    walk_to = f.shown k (omega (arith, start_in e k s, f.acceptable.sized.short)) r

    after_low : height_after e k (get_or hs k 0) ≤ 64
    unfolding height_after
    after_low = (last_ready f.acceptable walk_to.1).room

    -- its instruction by its row
    pub going : {r : Row} → IsRow (get_or e k 0) r → PassesOn e k hs r.needed r.left
    going {r} q =
        let y = last_ready f.acceptable walk_to.1 in
        record {
          cells = row_cells e k (get_or hs k 0) r.needed r.left q.needed_is q.left_is y.cells;
          after = after_row e k (get_or hs k 0) r.needed r.left q.needed_is q.left_is y.cells;
          low = after_low;
          room = record { short = f.acceptable.sized.short; inside = y.inside; long = f.long; cell = after_cell f.acceptable walk_to.1 };
        }

  module _ (h : i < length e) where
    -- ---- a turn over a start at which no walk arrives
    pub filling_skip : get_or hs i 0 ≡ unreached → Filling e (next e i) hs
    filling_skip p = record {
      acceptable = f.acceptable;
      start = start_next e i (f.start h);
      long = f.long;
      begin = f.begin;
      shown = f.shown;
      told = before_next e (λ (k : ℕ). get_or hs k 0 ≢ unreached → (m : ℕ) → After e k m → get_or hs m 0 ≡ height_after e k (get_or hs k 0)) i (f.start h)
          f.told (λ r. absurd (r p));
    }

    -- ---- a turn over any other
    module _ {hs' : List ℕ} (r : get_or hs i 0 ≢ unreached) (s : Stored (After e i) (height_after e i (get_or hs i 0)) hs hs') where
      here : (w : List ℕ) × Walk e 0 0 w i (get_or hs i 0)
      here = walk_to i (f.start h) r

      -- the cells up to i stay as they were
      before : (j : ℕ) → j ≤ i → get_or hs' j 0 ≡ get_or hs j 0
      before j q =
          ⊎_elim (λ (p : get_or hs' j 0 ≡ get_or hs j 0). p) (λ p. absurd (omega (arith, forward f.acceptable here.1 p.0))) (s.others j)

      -- and so does every cell with a height: what is stored there is that height
      kept : (j : ℕ) → j < 1024 → get_or hs j 0 ≢ unreached → get_or hs' j 0 ≡ get_or hs j 0
      kept j l n =
          ⊎_elim (λ (p : get_or hs' j 0 ≡ get_or hs j 0). p)
          (λ p. p.1 ∙ one_height f.acceptable (f.shown j l n).1 (onward_walk f.acceptable here.1 p.0)) (s.others j)

      shown_next : (j : ℕ) → j < 1024 → get_or hs' j 0 ≢ unreached → (w : List ℕ) × Walk e 0 0 w j (get_or hs' j 0)
      shown_next j l n =
          ⊎_elim (λ (p : get_or hs' j 0 ≡ get_or hs j 0). rw p (f.shown j l (rw p at n)))
          (λ p. (here.0 ++ (j ∷ []), rw p.1 (onward_walk f.acceptable here.1 p.0))) (s.others j)

      told_before : (k : ℕ) → k < i → is_start e k ≡ true → get_or hs' k 0 ≢ unreached → (m : ℕ) → After e k m
          → get_or hs' m 0 ≡ height_after e k (get_or hs' k 0)
      told_before k q t n m a =
          let y = before k (omega arith) in
          let n' : get_or hs k 0 ≢ unreached = rw y at n in
          let z = f.told k q t n' m a in
          let c = after_cell f.acceptable (walk_to k t n').1 m a in
          rw y (kept m c (λ p. omega (arith, after_low k t n')) ∙ z)

      pub filling_turn : Filling e (next e i) hs'
      filling_turn = record {
        acceptable = f.acceptable;
        start = start_next e i (f.start h);
        long = s.long ∙ f.long;
        begin = before 0 (omega arith) ∙ f.begin;
        shown = shown_next;
        told = before_next e (λ (k : ℕ). get_or hs' k 0 ≢ unreached → (m : ℕ) → After e k m → get_or hs' m 0 ≡ height_after e k (get_or hs' k 0)) i (f.start h)
            told_before (λ n m a. rw (before i (omega arith)) (s.there m a));
      }

  -- ---- after the last turn
  module _ (l : length e ≤ i) where
    -- a walk arrives with the height in its cell, if it sets out with that in its cell
    arrives : {k h j u : ℕ} {w : List ℕ} → Walk e k h w j u → h ≤ 64 → get_or hs k 0 ≡ h → get_or hs j 0 ≡ u
    arrives (stop s) q p = p
    arrives (step {k = k} {m = m} s a w) q p =
        let r : get_or hs k 0 ≢ unreached = λ z. omega arith in
        arrives w (rw p at (after_low k s r)) (rw p at (f.told k (omega (arith, start_in e k s)) s r m a))

    pub filling_end : Arrivals e hs
    filling_end = record { long = f.long; arrived = λ x. arrives x (omega arith) f.begin; reached = f.shown }

-- ---- a start whose cell has the height h, by its row
pub record Standing (e : List ℕ) (k h : ℕ) (hs : List ℕ) (n l : ℕ) : Type 0 where
  pub reached : get_or hs k 0 ≢ unreached
  pub cells : n ≤ h
  pub after : h - n + l ≡ height_after e k (get_or hs k 0)
  pub low : height_after e k (get_or hs k 0) ≤ 64
  pub room : Room e k hs

pub standing : {e : List ℕ} {k : ℕ} (hs : List (Option ℕ)) → Filling e k (marked hs) → k < length e → NoMark hs → length hs ≡ 1024 → {h : ℕ} → get_or hs k None ≡ Some h
    → {r : Row} → IsRow (get_or e k 0) r → Standing e k h (marked hs) r.needed r.left
standing {e} {k} hs f i m l {h} p {r} q =
    let x : get_or (marked hs) k 0 ≡ h = marked_at hs k (Some h) l (omega (arith, f.acceptable.sized.short)) p in
    let n : get_or (marked hs) k 0 ≢ unreached = λ z. m k h p (sym x ∙ z) in
    let g = going f k (f.start i) n q in
    record { reached = n; cells = omega (arith, g.cells); after = ap (λ (y : ℕ). y - r.needed + r.left) (sym x) ∙ g.after; low = g.low; room = g.room }
