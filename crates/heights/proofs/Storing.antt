-- Laws of one instruction: the height after it by its row, what tests of its kind say, and its stores.
use mathlib.Core.Bool.{Bool, true, false, ◌&&◌}
use mathlib.Core.List.{List}
use mathlib.Core.Path.{◌≡◌, refl, ap, sym, ◌∙◌}
use mathlib.Core.Logic.{◌≢◌, ◌⊎◌, inl, inr, ⊎_elim}
use Prim.Native.Nat.{ℕ, ◌+◌, ◌-◌, ◌≤◌, ◌<◌}
use native.Mathlib.Omega.{arith}
use native.Mathlib.Decide.{ℕ_discrete}
use lib.ListN.{get_or, length, set, length-set}
use lib.Seq.{get_or-set_same, get_or-set_other}
use borrow.Author.Tests.{le-leb, leb-true, ne_eqb, eqb-false, not-true}
use Rattle.logic.proofs.Promises.{no_true}
use Rattle.isa.specs.Joining.Rows.{kind_of, IsRow}
use Rattle.isa.specs.declared.Row.{Row}
use Rattle.isa.specs.Classes.{row, kind_goto, kind_if_goto, kind_end}
use Rattle.isa.specs.Decode.{class_at, kind_at, is_jump, goes_on, next, operand, picked, needed, height_after}
use Rattle.isa.specs.Walk.{After, target, onward}
use Rattle.verdict.specs.Pass3.{unreached}
use Rattle.isa.proofs.Promises.{needed_by, left_by, after_by}
use Rattle.std.proofs.Common.{Option, Some, None}
use Rattle.std.proofs.lemmas.List.{map-set, get_or-map}
use Rattle.heights.specs.Arrivals.{height_or_mark, marked, NoMark}
use Rattle.heights.specs.Joining.Filling.{AtTarget, AtNext, Room, Stored}

module _ (e : List ℕ) (k h n l : ℕ) (p : n ≡ get_or (row (class_at e k)) 1 0) (q : l ≡ get_or (row (class_at e k)) 2 0) (c : needed e k ≤ h) where
  -- a row's cells are among the cells needed
  pub row_cells : n ≤ h
  row_cells = omega (arith, needed_by e k n (picked e k) p refl)

  -- the N of pick N cancels
  pub after_row : h - n + l ≡ height_after e k h
  after_row =
      let x = needed_by e k n (picked e k) p refl in
      let y = left_by e k l (picked e k) q refl in
      omega (arith, after_by e k h (n + picked e k) (l + picked e k) x y)

-- ---- tests of a kind
both : (a b : Bool) → (a && b) ≡ true → (a ≡ true) × (b ≡ true)
both true b p = (refl, p)
both false b p = no_true p

module _ (e : List ℕ) (k : ℕ) {r : Row} (q : IsRow (get_or e k 0) r) where
  pub jump_kind : is_jump (kind_of r.kind) ≡ true → (kind_goto ≤ kind_at e k) × (kind_at e k ≤ kind_if_goto)
  jump_kind p = let x = both _ _ (rw q.kind_is at p) in (leb-true _ _ x.0, leb-true _ _ x.1)

  jump_not : is_jump (kind_of r.kind) ≡ false → kind_goto ≤ kind_at e k → kind_at e k ≤ kind_if_goto → ⊥
  jump_not p a b = no_true (sym (rw q.kind_is at p) ∙ rw (le-leb _ _ a, le-leb _ _ b))

  pub on_kind : goes_on (kind_of r.kind) ≡ true → (kind_at e k ≢ kind_goto) × (kind_at e k ≢ kind_end)
  on_kind p = let x = both _ _ (rw q.kind_is at p) in (eqb-false _ _ (not-true _ x.0), eqb-false _ _ (not-true _ x.1))

  on_not : goes_on (kind_of r.kind) ≡ false → kind_at e k ≢ kind_goto → kind_at e k ≢ kind_end → ⊥
  on_not p a b = no_true (sym (rw q.kind_is at p) ∙ rw (ne_eqb _ _ a, ne_eqb _ _ b))

-- ---- the code's cells
pub marked_at : (hs : List (Option ℕ)) (k : ℕ) (c : Option ℕ) → length hs ≡ 1024 → k < 1024 → get_or hs k None ≡ c → get_or (marked hs) k 0 ≡ height_or_mark c
marked_at hs k c l h p = get_or-map height_or_mark hs k None 0 (omega arith) ∙ ap height_or_mark p

pub marked_set : (hs : List (Option ℕ)) (k h : ℕ) → marked (set hs k (Some h)) ≡ set (marked hs) k h
marked_set hs k h = map-set height_or_mark hs k (Some h)

pub no_mark_set : (hs : List (Option ℕ)) → NoMark hs → (k h : ℕ) → k < length hs → h ≢ unreached → NoMark (set hs k (Some h))
no_mark_set hs q k h i p j u z =
    elim (ℕ_discrete j k) [
      | yes y ↦ (λ w. p (ap height_or_mark (sym (get_or-set_same hs k (Some h) None i) ∙ rw y at z) ∙ w))
      | no y ↦ q j u (sym (get_or-set_other hs k j (Some h) None y) ∙ z)
    ]

-- ---- one store, or none
module _ {A : ℕ → Type 0} where
  stored_none : (h : ℕ) (hs : List ℕ) → ((m : ℕ) → A m → ⊥) → Stored A h hs hs
  stored_none h hs n = record { long = refl; there = λ m a. absurd (n m a); others = λ j. inl refl }

  stored_one : (h : ℕ) (hs : List ℕ) (t : ℕ) → A t → ((m : ℕ) → A m → m ≡ t) → t < length hs → Stored A h hs (set hs t h)
  stored_one h hs t a o l =
      let s = get_or-set_same hs t h 0 l in
      record {
        long = length-set hs t h;
        there = λ m b. rw (o m b) s;
        others = λ j. elim (ℕ_discrete j t) [ yes p ↦ inr (rw p (a, s)) | no p ↦ inl (get_or-set_other hs t j h 0 p) ];
      }

module _ (e : List ℕ) (k : ℕ) {r : Row} (q : IsRow (get_or e k 0) r) (h : ℕ) (hs : List ℕ) where
  -- ---- at the target, by kind
  pub target_none : is_jump (kind_of r.kind) ≡ false → Stored (AtTarget e k) h hs hs
  target_none p = stored_none h hs (λ m a. jump_not e k q p a.least a.most)

  pub target_jump : (t : ℕ) → is_jump (kind_of r.kind) ≡ true → t ≡ operand e k → t < length hs → Stored (AtTarget e k) h hs (set hs t h)
  target_jump t p o = let x = jump_kind e k q p in stored_one h hs t (record { least = x.0; most = x.1; place = o }) (λ m b. b.place ∙ sym o)

  -- ---- at the next start, by kind
  pub next_none : goes_on (kind_of r.kind) ≡ false → Stored (AtNext e k) h hs hs
  next_none p = stored_none h hs (λ m a. on_not e k q p a.no_goto a.no_end)

  pub next_on : (t : ℕ) → goes_on (kind_of r.kind) ≡ true → t ≡ next e k → t < length hs → Stored (AtNext e k) h hs (set hs t h)
  next_on t p o = let x = on_kind e k q p in stored_one h hs t (record { no_goto = x.0; no_end = x.1; place = o }) (λ m b. b.place ∙ sym o)

-- ---- both
module _ {e : List ℕ} {k : ℕ} where
  after_target : {m : ℕ} → AtTarget e k m → After e k m
  after_target a = target a.least a.most a.place

  after_next : {m : ℕ} → AtNext e k m → After e k m
  after_next a = onward a.no_goto a.no_end a.place

  module _ {h : ℕ} {hs hs' hs'' : List ℕ} (s : Stored (AtTarget e k) h hs hs') (t : Stored (AtNext e k) h hs' hs'') where
    -- the second store keeps what the first has stored
    kept : (j : ℕ) → get_or hs' j 0 ≡ h → get_or hs'' j 0 ≡ h
    kept j p = ⊎_elim (λ (q : get_or hs'' j 0 ≡ get_or hs' j 0). q ∙ p) (λ q. q.1) (t.others j)

    stored_there : (m : ℕ) → After e k m → get_or hs'' m 0 ≡ h
    stored_there m (target l u p) = kept m (s.there m (record { least = l; most = u; place = p }))
    stored_there m (onward g n p) = t.there m (record { no_goto = g; no_end = n; place = p })

    stored_others : (j : ℕ) → (get_or hs'' j 0 ≡ get_or hs j 0) ⊎ (After e k j × (get_or hs'' j 0 ≡ h))
    stored_others j =
        ⊎_elim
        (λ (q : get_or hs'' j 0 ≡ get_or hs' j 0).
        ⊎_elim (λ (r : get_or hs' j 0 ≡ get_or hs j 0). inl (q ∙ r)) (λ r. inr (after_target r.0, q ∙ r.1)) (s.others j))
        (λ q. inr (after_next q.0, q.1)) (t.others j)

    pub stored_both : Stored (After e k) h hs hs''
    stored_both = record { long = t.long ∙ s.long; there = stored_there; others = stored_others }

  -- after a store there is still room
  pub room_kept : {A : ℕ → Type 0} {h : ℕ} {hs hs' : List ℕ} → Stored A h hs hs' → Room e k hs → Room e k hs'
  room_kept s r = record { short = r.short; inside = r.inside; long = s.long ∙ r.long; cell = r.cell }
