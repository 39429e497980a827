-- The search for a zero byte: what its outcome says, and the loop of `find_zero`.
use Rattle.std.proofs.Common.{◌≡◌, ℕ, zero, suc, ◌+◌, ◌-◌, ◌<◌, ◌≤◌, false, eqb, ◌≢◌, List, [], ◌∷◌, length, get_or, take, drop, sym, refl, ap, ◌∙◌, arith, eqb-true, eq-eqb, get_or-take, get_or-drop, length-take, length-drop}
use Rattle.std.specs.List.{list_any}
use Rattle.std.proofs.lemmas.List.Folds.{list_any_at}
use borrow.Author.Tests.{eqb-false}
use Rattle.logic.proofs.Promises.{cases, no_true}
use Rattle.memory.specs.FirstZero.{Sought, up_to_zero, all_of_size, cut_short, past, searched, NoZero, FirstZero, Says}
use Rattle.memory.specs.Joining.Searching.{Passed}
use Rattle.memory.proofs.Choosing.{cond_elim}

-- ---- what the outcome says
none_cons : (b : ℕ) (l : List ℕ) (n : ℕ) → b ≢ 0 → NoZero n l → NoZero (suc n) (b ∷ l)
none_cons b l n z h zero s = z
none_cons b l n z h (suc i) s = h i (omega arith)

says_past : (b : ℕ) (l : List ℕ) (size : ℕ) → b ≢ 0 → (s : Sought) → Says size l s → Says (suc size) (b ∷ l) (past 1 s)
says_past b l size z (up_to_zero n) h =
    let e : 1 + n - 1 ≡ suc (n - 1) = omega (arith, h.some) in
    record {
      some = omega arith;
      zero_there = rw e h.zero_there;
      none_before = rw e (none_cons b l (n - 1) z h.none_before);
      in_size = omega (arith, h.in_size);
      in_bytes = omega (arith, h.in_bytes);
    }
says_past b l size z (all_of_size n) h = record {
  all = omega (arith, h.all);
  exist = omega (arith, h.exist);
  none = none_cons b l size z h.none;
}
says_past b l size z (cut_short n) h = record {
  all = omega (arith, h.all);
  fewer = omega (arith, h.fewer);
  none = none_cons b l (length l) z h.none;
}

pub search_says : (size : ℕ) (l : List ℕ) → Says size l (searched size l)
unfolding searched
search_says zero l = record { all = refl; exist = omega arith; none = λ i h. omega arith }
search_says (suc size) [] = record { all = refl; fewer = omega arith; none = λ i h. omega arith }
search_says (suc size) (b ∷ l) =
    cond_elim (Says (suc size) (b ∷ l)) (eqb b 0) (up_to_zero 1) (past 1 (searched size l))
    (λ e. record { some = omega arith; zero_there = eqb-true b 0 e; none_before = λ i h. omega arith; in_size = omega arith; in_bytes = omega arith })
    (λ e. says_past b l size (eqb-false b 0 e) (searched size l) (search_says size l))

-- no two outcomes say something true
module _ (size : ℕ) (l : List ℕ) where
  found_most : {n m : ℕ} → FirstZero size l n → FirstZero size l m → n ≤ m
  found_most {n} {m} p q = cases m n (λ h. absurd (p.none_before (m - 1) (omega (arith, q.some)) q.zero_there)) (λ h. h)

  one_says : (s t : Sought) → Says size l s → Says size l t → s ≡ t
  one_says (up_to_zero n) (up_to_zero m) p q = ap up_to_zero (omega (arith, found_most p q, found_most q p))
  one_says (up_to_zero n) (all_of_size m) p q = absurd (q.none (n - 1) (omega (arith, p.some, p.in_size)) p.zero_there)
  one_says (up_to_zero n) (cut_short m) p q = absurd (q.none (n - 1) (omega (arith, p.some, p.in_bytes)) p.zero_there)
  one_says (all_of_size n) (up_to_zero m) p q = absurd (p.none (m - 1) (omega (arith, q.some, q.in_size)) q.zero_there)
  one_says (all_of_size n) (all_of_size m) p q = ap all_of_size (omega (arith, p.all, q.all))
  one_says (all_of_size n) (cut_short m) p q = absurd (omega (arith, p.exist, q.fewer))
  one_says (cut_short n) (up_to_zero m) p q = absurd (p.none (m - 1) (omega (arith, q.some, q.in_bytes)) q.zero_there)
  one_says (cut_short n) (all_of_size m) p q = absurd (omega (arith, q.exist, p.fewer))
  one_says (cut_short n) (cut_short m) p q = ap cut_short (omega (arith, p.all, q.all))

  pub says_search : (s : Sought) → Says size l s → s ≡ searched size l
  says_search s h = one_says s (searched size l) h (search_says size l)

-- ---- a block without a zero
block_none : (s : List ℕ) → list_any (λ y. eqb y 0) s ≡ false → NoZero (length s) s
block_none s e i h z = no_true (sym e ∙ list_any_at (λ y. eqb y 0) s i 0 h (eq-eqb (get_or s i 0) 0 z))

-- ---- bytes passed, of which none is zero
pub passed_none : (l : List ℕ) → Passed l 0
passed_none l = record { within = omega arith; none = λ i h. omega arith }

module _ {l : List ℕ} {k : ℕ} (p : Passed l k) where
  pub passed_turn : k < length l → get_or l k 0 ≢ 0 → Passed l (k + 1)
  passed_turn h z = record { within = omega arith; none = λ i s. cases i k (λ lt. p.none i lt) (λ ge. let e : i ≡ k = omega arith in rw e z) }

  pub passed_block : (v : ℕ) → list_any (λ y. eqb y 0) (take v (drop k l)) ≡ false → (m : ℕ) → m ≡ k + v → m ≤ length l → Passed l m
  passed_block v e m q h = record {
    within = h;
    none = λ i s. cases i k (λ lt. p.none i lt)
        (λ ge. let d : k + (i - k) ≡ i = omega arith in
        let n : i - k < length (take v (drop k l)) = simp (length-take, length-drop) (omega arith) in
        rw (get_or-take v (drop k l) (i - k) 0 (omega arith), get_or-drop, d) at (block_none (take v (drop k l)) e (i - k) n));
  }

-- ---- the search stops: n is the limit, and k of the bytes below it are passed
module _ (l : List ℕ) {n k : ℕ} (p : Passed (take n l) k) (i : n ≤ length l) where
  before : (m : ℕ) → m ≤ k → m ≤ n → NoZero m l
  before m h s j u z = p.none j (omega arith) (get_or-take n l j 0 (omega arith) ∙ z)

  module _ (size : ℕ) where
    pub passed_size : n ≡ size → n ≤ k → all_of_size n ≡ searched size l
    passed_size e h = says_search size l (all_of_size n) (record { all = e; exist = omega arith; none = before size (omega arith) (omega arith) })

    pub passed_end : n < size → n ≡ length l → n ≤ k → cut_short n ≡ searched size l
    passed_end s e h = says_search size l (cut_short n) (record { all = e; fewer = omega arith; none = before (length l) (omega arith) (omega arith) })

    pub passed_zero : n ≤ size → k < n → get_or l k 0 ≡ 0 → up_to_zero (k + 1) ≡ searched size l
    passed_zero s h z =
        let e : k + 1 - 1 ≡ k = omega arith in
        says_search size l (up_to_zero (k + 1))
        (record { some = omega arith; zero_there = rw e z; none_before = rw e (before k (omega arith) (omega arith)); in_size = omega arith; in_bytes = omega arith })
