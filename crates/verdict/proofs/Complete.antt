-- What pass 3 finds is there: a refusal has a walk, or two, that break its rule, and the greatest height and the
-- heaviest weight are those of walks.
use mathlib.Core.Bool.{Bool, true, false, cond, ◌&&◌}
use mathlib.Core.List.{List, [], ◌∷◌, ◌++◌}
use mathlib.Core.Path.{◌≡◌, refl, ◌∙◌}
use mathlib.Core.Logic.{◌⊎◌, inl, inr, ◌≢◌}
use Prim.Native.Nat.{ℕ, ◌+◌, ◌≤◌, ◌<◌, max}
use native.Mathlib.Omega.{arith}
use native.Mathlib.Decide.{ℕ_discrete}
use lib.ListN.{get_or, length, set, length-set}
use lib.Seq.{get_or-set_same, get_or-set_other}
use lib.Dec.{leb}
use borrow.Author.Tests.{eq-eqb, ne_eqb, lt-ltb, le-ltb, leb-true}
use Rattle.refusals.specs.Refusal.{Refusal}
use Rattle.isa.specs.Classes.{kind_end}
use Rattle.isa.specs.Decode.{kind_at, next, operand, needed, height_after, jumps, continues}
use Rattle.isa.specs.Starts.{is_start}
use Rattle.isa.specs.Walk.{After, Walk, stop, weigh}
use Rattle.logic.proofs.Promises.{cases}
use Rattle.isa.proofs.Promises.{start_in, start_zero, walk_last, walk_on, weigh_on}
use Rattle.verdict.specs.Pass1.{Decodes}
use Rattle.verdict.specs.Pass2.{Aims}
use Rattle.verdict.specs.Pass3.{unreached, differing, joined, arrive, raise, at_target, at_next, pass_on, runs_off_end, fault3, longer, done, stopped, heights0, distances0, pass3}
use Rattle.verdict.specs.Acceptance.{ToEnd, Broken, two_heights, cells_lack, cells_exceed, walk_leaves}
use Rattle.verdict.proofs.Decoded.{decodes_fits}
use Rattle.verdict.proofs.Along.{Fine, fine, after_start, after_target, after_next, joined_first, joined_same, joined_differing, longer_end, longer_other, heights0_length, heights0_zero, heights0_other, distances0_length, distances0_at, Preserved, EndsKeeping, pass3_ends}

-- the greater of two numbers has what both have
max_either : (P : ℕ → Type 0) (x y : ℕ) → P x → P y → P (max x y)
max_either P x y p q = cases x y (λ h. let z : max x y ≡ y = omega arith in rw z q) (λ h. let z : max x y ≡ x = omega arith in rw z p)

-- ---- numbers that a walk has
-- g is 0, or the height after the last instruction of a walk
abbrev HeightSeen : List ℕ → ℕ → Type 0
HeightSeen e g = (g ≡ 0) ⊎ ((w : List ℕ) × (j : ℕ) × (u : ℕ) × Walk e 0 0 w j u × (height_after e j u ≡ g))

-- l is 0, or the weight of a walk to an end
abbrev WeightSeen : (ℕ → ℕ) → List ℕ → ℕ → Type 0
WeightSeen f e l = (l ≡ 0) ⊎ ((w : List ℕ) × ToEnd e w × (weigh f w ≡ l))

-- a walk arrives at j with height h
abbrev Arrives : List ℕ → ℕ → ℕ → Type 0
Arrives e j h = (w : List ℕ) × Walk e 0 0 w j h

-- a walk arrives at j whose starts before j weigh d
record Weighed (f : ℕ → ℕ) (e : List ℕ) (j d : ℕ) : Type 0 where
  list : List ℕ
  height : ℕ
  walk : Walk e 0 0 list j height
  weight : weigh f list ≡ d + f j

-- such walks go on to what comes after j
module _ {e : List ℕ} {j m : ℕ} where
  arrives_on : {h : ℕ} → Arrives e j h → After e j m → is_start e m ≡ true → Arrives e m (height_after e j h)
  arrives_on w a s = (w.0 ++ (m ∷ []), walk_on w.1 a s)

  weighed_on : {f : ℕ → ℕ} {d : ℕ} → Weighed f e j d → After e j m → is_start e m ≡ true → Weighed f e m (d + f j)
  weighed_on {f} x a s = record {
    list = x.list ++ (m ∷ []);
    height = height_after e j x.height;
    walk = walk_on x.walk a s;
    weight = omega (arith, weigh_on f x.list m, x.weight);
  }

-- ---- why the cells at the offset j hold c, in the table of heights, and d, in the table of distances
data Seen (f : ℕ → ℕ) (e : List ℕ) (j c d : ℕ) : Type 0 where
  unseen : c ≡ unreached → d ≡ 0 → Seen f e j c d
  once : c ≤ 64 → Arrives e j c → Weighed f e j d → Seen f e j c d
  twice : {t u : ℕ} → c ≡ differing → Arrives e j t → Arrives e j u → t ≢ u → Weighed f e j d → Seen f e j c d

-- the cells at j after walks arrive there, one with height h, one whose starts before j weigh b
seen_join : {f : ℕ → ℕ} {e : List ℕ} {j c d h b : ℕ} → Seen f e j c d → h ≤ 64 → Arrives e j h → Weighed f e j b → Seen f e j (joined c h) (max d b)
seen_join {c = c} {d = d} {h = h} {b = b} (unseen p q) l w x = let z : max d b ≡ b = omega arith in rw (joined_first c h p, z) (once l w x)
seen_join {f} {e} {j} {c} {d} {h} {b} (twice p v w n y) l w' x =
    twice (joined_differing c h (omega arith) (omega arith)) v w n (max_either (Weighed f e j) d b y x)
seen_join {f} {e} {j} {c} {d} {h} {b} (once m v y) l w x =
    let z : Weighed f e j (max d b) = max_either (Weighed f e j) d b y x in
    elim (ℕ_discrete c h) [
      | yes q ↦ rw (joined_same c h q) (once l w z)
      | no q ↦ twice (joined_differing c h (omega arith) q) v w q z
    ]

-- of a cell of heights that is neither unreached nor differing: a walk arrives with that height
seen_once : {f : ℕ → ℕ} {e : List ℕ} {j c d : ℕ} → Seen f e j c d → c ≢ unreached → c ≢ differing → Arrives e j c × Weighed f e j d
seen_once (unseen p q) r s = absurd (r p)
seen_once (once l w x) r s = (w, x)
seen_once (twice p v w n x) r s = absurd (s p)

-- ---- all cells of both tables
record AllSeen (f : ℕ → ℕ) (e : List ℕ) (hs ds : List ℕ) : Type 0 where
  heights_long : length hs ≡ 1024
  distances_long : length ds ≡ 1024
  cell : (j : ℕ) → j < 1024 → Seen f e j (get_or hs j 0) (get_or ds j 0)

module _ {f : ℕ → ℕ} {e : List ℕ} where
  -- a change of the cells at m alone
  set_seen : {hs ds : List ℕ} (m x y : ℕ) → AllSeen f e hs ds → (m < 1024 → Seen f e m x y) → AllSeen f e (set hs m x) (set ds m y)
  set_seen {hs} {ds} m x y a s = record {
    heights_long = length-set hs m x ∙ a.heights_long;
    distances_long = length-set ds m y ∙ a.distances_long;
    cell = λ j l.
        elim (ℕ_discrete j m) [
          | yes q ↦ rw (q, get_or-set_same hs m x 0 (omega (arith, a.heights_long)), get_or-set_same ds m y 0 (omega (arith, a.distances_long))) (s (omega arith))
          | no q ↦ rw (get_or-set_other hs m j x 0 q, get_or-set_other ds m j y 0 q) (a.cell j l)
        ];
  }

  module _ (h b : ℕ) (low : h ≤ 64) where
    -- the tables after walks arrive at m, where the test t holds
    arrive_seen : {hs ds : List ℕ} (t : Bool) (m : ℕ) → (t ≡ true → Arrives e m h × Weighed f e m b) → AllSeen f e hs ds
        → AllSeen f e (cond t (arrive h m hs) hs) (cond t (raise b m ds) ds)
    unfolding arrive raise
    arrive_seen {hs} {ds} true m x a =
        set_seen m (joined (get_or hs m 0) h) (max (get_or ds m 0) b) a (λ l. seen_join (a.cell m l) low (x refl).0 (x refl).1)
    arrive_seen false m x a = a

    -- the tables after walks arrive at all that may come after the instruction at k
    pass_seen : {hs ds : List ℕ} (k : ℕ) → ((m : ℕ) → After e k m → Arrives e m h × Weighed f e m b) → AllSeen f e hs ds
        → AllSeen f e (pass_on e k (arrive h) hs) (pass_on e k (raise b) ds)
    unfolding at_target at_next
    pass_seen k x a =
        arrive_seen (continues e k) (next e k) (λ t. x (next e k) (after_next e k (next e k) t refl))
        (arrive_seen (jumps e k) (operand e k) (λ t. x (operand e k) (after_target e k (operand e k) t refl)) a)

-- ---- a refusal
module _ (e : List ℕ) (k : ℕ) (decodes : Decodes e) where
  -- the last test: the start k runs on past the last byte
  off_broken : {h : ℕ} (a b : Bool) → continues e k ≡ a → leb (length e) (next e k) ≡ b → Arrives e k h → needed e k ≤ h → height_after e k h ≤ 64
      → ◌≢◌ {A = ℕ} (cond (a && b) 11 0) 0 → Broken e k (cond (a && b) 11 0)
  off_broken true true p q w c g n = (
    w.0 ∷ [],
    walk_leaves refl refl w.1 (omega arith) (omega arith) (after_next e k (next e k) p refl)
        (omega (arith, leb-true (length e) (next e k) q, decodes_fits e k decodes (walk_last w.1))),
  )
  off_broken true false p q w c g n = absurd (n refl)
  off_broken false b p q w c g n = absurd (n refl)

  -- a fault at the start k, from what its cell of heights holds
  seen_broken : {f : ℕ → ℕ} {c d : ℕ} → Seen f e k c d → c ≢ unreached → fault3 e k c ≢ 0 → Broken e k (fault3 e k c)
  unfolding fault3 runs_off_end
  seen_broken (unseen p q) r = absurd (r p)
  seen_broken {c = c} (twice p v w n x) r = λ z. (v.0 ∷ w.0 ∷ [], two_heights (rw (eq-eqb c differing p)) refl v.1 w.1 n)
  seen_broken {c = c} (once l w x) r =
      rw (ne_eqb c differing (omega arith))
      (cases c (needed e k) (λ h. rw (lt-ltb c (needed e k) h) (λ z. (w.0 ∷ [], cells_lack refl refl w.1 h)))
      (λ h. rw (le-ltb c (needed e k) h)
      (cases 64 (height_after e k c) (λ g. rw (lt-ltb 64 (height_after e k c) g) (λ z. (w.0 ∷ [], cells_exceed refl refl w.1 (omega arith) g)))
      (λ g. rw (le-ltb 64 (height_after e k c) g) (off_broken (continues e k) (leb (length e) (next e k)) refl refl w h g)))))

-- ---- the pass
-- all that pass 3 holds between two starts is that of walks
record AllFound (f : ℕ → ℕ) (e : List ℕ) (hs ds : List ℕ) (g l : ℕ) : Type 0 where
  cells : AllSeen f e hs ds
  high : HeightSeen e g
  heavy : WeightSeen f e l

-- the heaviest weight after the start k
longer_seen : (f : ℕ → ℕ) (e : List ℕ) (k d l : ℕ) → Weighed f e k d → WeightSeen f e l → WeightSeen f e (longer e k (d + f k) l)
longer_seen f e k d l x s =
    elim (ℕ_discrete (kind_at e k) kind_end) [
      | yes p ↦ rw (longer_end e k (d + f k) l p) (max_either (WeightSeen f e) l (d + f k) s (inr (x.list, (k, x.height, x.walk, p), x.weight)))
      | no p ↦ rw (longer_other e k (d + f k) l p) s
    ]

module _ (f : ℕ → ℕ) (e : List ℕ) (some : 1 ≤ length e) (short : length e ≤ 1024) (aims : Aims e) where
  -- pass 3 begins so
  found_first : AllFound f e heights0 distances0 0 0
  unfolding weigh
  found_first = record {
    cells = record {
      heights_long = heights0_length;
      distances_long = distances0_length;
      cell = λ j l.
          elim (ℕ_discrete j 0) [
            | yes q ↦ rw (q, heights0_zero, distances0_at 0)
                (once (omega arith) (0 ∷ [], stop (start_zero e some))
                (record { list = 0 ∷ []; height = 0; walk = stop (start_zero e some); weight = omega arith }))
            | no q ↦ unseen (heights0_other j q l) (distances0_at j)
          ];
    };
    high = inl refl;
    heavy = inl refl;
  }

  -- each start keeps it
  found_kept : Preserved f e (λ i hs ds g l. AllFound f e hs ds g l)
  found_kept = record {
    skip = λ a s p. a;
    pass = λ {i} {hs} {ds} {g} {l} a s r z.
        let p : Fine e i (get_or hs i 0) = fine e i (get_or hs i 0) z in
        let x = seen_once (a.cells.cell i (omega (arith, start_in e i s))) r p.same in
        record {
          cells = pass_seen (height_after e i (get_or hs i 0)) (get_or ds i 0 + f i) p.room i
              (λ m n. let t = after_start aims p s n in (arrives_on x.0 n t, weighed_on x.1 n t)) a.cells;
          high = max_either (HeightSeen e) g (height_after e i (get_or hs i 0)) a.high (inr (x.0.0, i, get_or hs i 0, x.0.1, refl));
          heavy = longer_seen f e i (get_or ds i 0) l x.1 a.heavy;
        };
  }

  -- so it holds where pass 3 ends
  found : EndsKeeping e (λ i hs ds g l. AllFound f e hs ds g l) (pass3 f e)
  found = pass3_ends found_kept found_first

  -- a refusal of pass 3 has its reason
  pub broken : {x : Refusal} → Decodes e → pass3 f e ≡ stopped x → Broken e x.offset x.number
  broken {x} d p =
      let t = rw p at found in
      let k = x.offset in
      rw t.number_is (seen_broken e k d (t.holds.cells.cell k (omega (arith, start_in e k t.start))) t.reached t.faulty)

  -- the greatest height is 0 or the height after the last instruction of a walk
  pub greatest_seen : {hs ds : List ℕ} {g l : ℕ} → pass3 f e ≡ done hs ds g l
      → (g ≡ 0) ⊎ ((w : List ℕ) × (j : ℕ) × (u : ℕ) × Walk e 0 0 w j u × (height_after e j u ≡ g))
  greatest_seen p = (rw p at found).holds.high

  -- the heaviest weight is 0 or the weight of a walk to an end
  pub heaviest_seen : {hs ds : List ℕ} {g l : ℕ} → pass3 f e ≡ done hs ds g l
      → (l ≡ 0) ⊎ ((w : List ℕ) × ToEnd e w × (weigh f w ≡ l))
  heaviest_seen p = (rw p at found).holds.heavy
