-- A whole listing line by line, for the proofs of the functions of `whole`. Assumes nothing.
use Prim.Native.Nat.{ℕ, suc, ◌+◌, ◌-◌, ◌≤◌, ◌<◌}
use native.Mathlib.Decide.{ℕ_discrete}
use native.Mathlib.Omega.{arith}
use mathlib.Core.Bool.{Bool, true, false, cond, ◌&&◌}
use mathlib.Core.List.{List, [], ◌∷◌}
use mathlib.Core.Path.{◌≡◌, refl, sym, ap, subst, ◌∙◌}
use lib.Dec.{eqb}
use lib.ListN.{length, take, drop, length-drop, drop_of_length-le}
use lib.Seq.{take_all, take-take, length-take-le, drop-drop}
use borrow.Author.Tests.{eq-eqb, ne_eqb}
use Rattle.std.proofs.Common.{Result, Ok, Err, ap₂}
use Rattle.std.specs.List.{prefix_len, take_while}
use Rattle.std.specs.Cmp.Lexicographic.{pointwise}
use Rattle.std.proofs.lemmas.List.Folds.{length-prefix_len}
use Rattle.std.proofs.lemmas.List.Sums.{prefix_len-le-length}
use Rattle.encoding.proofs.Promises.{part_lent}
use Rattle.line_words.specs.Words.{leading, same_bytes}
use Rattle.line_words.proofs.Promises.{Counted}
use Rattle.listing.specs.Line.{nothing, read_line, read_answer, read_left, taken, end_by, read_end}
use Rattle.listing.proofs.Lining.{left_length}
use Rattle.listing.specs.Meant.{begins, is_heading, is_not, before, before_comment, meant}
use Rattle.listing.specs.Listing.{onto, lines_of, IsLine}
use Rattle.listing.specs.Whole.{ListingOutcome, after_line, outcome_from, outcome}
use Rattle.listing.specs.declared.reading.Unread.{Unread}
use Rattle.listing.specs.declared.whole.ListingFault.{ListingFault}

-- ---- `begins_with`
eqb_sym : (x y : ℕ) → eqb x y ≡ eqb y x
eqb_sym x y =
    elim (ℕ_discrete x y) [
      | yes e ↦ eq-eqb x y e ∙ sym (eq-eqb y x (sym e))
      | no n ↦ ne_eqb x y n ∙ sym (ne_eqb y x (λ e. n (sym e)))
    ]

same_is : (w l : List ℕ) → pointwise eqb w l ≡ same_bytes l w
same_is [] [] = refl
same_is [] (y ∷ l) = refl
same_is (x ∷ w) [] = refl
same_is (x ∷ w) (y ∷ l) = ap₂ (λ (a b : Bool). a && b) (eqb_sym x y) (same_is w l)

pub begins_is : (w l : List ℕ) → pointwise eqb w (take (length w) l) ≡ begins w l
begins_is w l = same_is w (take (length w) l)

-- ---- what stands before a character
one_more : (b : Bool) {m n : ℕ} → m ≡ n → cond b (1 + m) 0 ≡ cond b (suc n) 0
one_more true e = omega (arith, e)
one_more false e = refl

leading_is : (p : ℕ → Bool) (l : List ℕ) → prefix_len p l ≡ leading p l
leading_is p [] = refl
leading_is p (c ∷ l) = one_more (p c) (leading_is p l)

pub counted : (p : ℕ → Bool) (l : List ℕ) (n : ℕ) → n ≡ length (take_while p l) → Counted p l n
counted p l n e = (e ∙ length-prefix_len p l ∙ leading_is p l, omega (arith, e, length-prefix_len p l, prefix_len-le-length p l))

-- ---- `before_comment`: n characters before the line feed, and m of them before #
pub comment_cut : (l : List ℕ) (n m : ℕ) → Counted (is_not 10) l n → Counted (is_not 35) (take (n - 0) l) m → (take m l ≡ before_comment l) × (m ≤ length l)
unfolding before_comment
comment_cut l n m p q =
    let z : n - 0 ≡ leading (is_not 10) l = omega (arith, p.0) in
    let w : take (n - 0) l ≡ before 10 l = ap (λ (j : ℕ). take j l) z in
    let e : n - 0 ≡ n = omega arith in
    let k : m ≤ n - 0 = omega (arith, q.1, length-take-le (n - 0) l (omega (arith, p.1))) in
    (sym (take-take m (n - 0) l k) ∙ ap (take m) w ∙ ap (λ (j : ℕ). take j (before 10 l)) (q.0 ∙ ap (leading (is_not 35)) w), omega (arith, k, p.1))

-- ---- `take_line`
module _ (at : ℕ) (l : List ℕ) (r : Bool) (is : r ≡ is_heading l) where
  pub meant_nothing : r ≡ true → nothing ≡ meant at l
  unfolding meant
  meant_nothing t = rw (sym is ∙ t)

  pub meant_line : r ≡ false → (n : ℕ) → take n l ≡ before_comment l → read_line at (take (n - 0) l) ≡ meant at l
  unfolding meant
  meant_line f n e =
      let z : n - 0 ≡ n = omega arith in
      rw (sym is ∙ f) (ap (λ (j : ℕ). read_line at (take j l)) z ∙ ap (read_line at) e)

-- ---- `line_end`: n characters before the line feed
lines_inner : (l : List ℕ) → leading (is_not 10) l < length l → lines_of l ≡ take (suc (leading (is_not 10) l)) l ∷ lines_of (drop (suc (leading (is_not 10) l)) l)
unfolding lines_of
lines_inner [] h = absurd (omega (arith, h))
lines_inner (c ∷ t) h =
    elim (ℕ_discrete c 10) [
      | yes e ↦ rw (eq-eqb c 10 e)
      | no n ↦
          let f = ne_eqb c 10 n in
          let k = rw f at h in
          rw f (ap (onto c) (lines_inner t (omega (arith, k))))
    ]

lines_last : (l : List ℕ) → 0 < length l → leading (is_not 10) l ≡ length l → lines_of l ≡ l ∷ []
unfolding lines_of
lines_last [] h e = absurd (omega (arith, h))
lines_last (c ∷ []) h e =
    elim (ℕ_discrete c 10) [
      | yes q ↦ absurd (let k = rw (eq-eqb c 10 q) at e in omega (arith, k))
      | no n ↦ rw (ne_eqb c 10 n)
    ]
lines_last (c ∷ d ∷ t) h e =
    elim (ℕ_discrete c 10) [
      | yes q ↦ absurd (let k = rw (eq-eqb c 10 q) at e in omega (arith, k))
      | no n ↦
          let f = ne_eqb c 10 n in
          let k = rw f at e in
          rw f (ap (onto c) (lines_last (d ∷ t) (omega arith) (omega (arith, k))))
    ]

module _ (t : List ℕ) (i n : ℕ) (more : i < length t) (c : Counted (is_not 10) (take (length t - i) (drop i t)) n) where
  count : n ≡ leading (is_not 10) (drop i t)
  count = c.0 ∙ ap (leading (is_not 10)) (part_lent t i)

  most : n ≤ length t - i
  most = omega (arith, c.1, ap length (part_lent t i), length-drop i t)

  pub line_last : i + n ≡ length t → IsLine t i (i + n)
  unfolding lines_of
  line_last e =
      let all : length (drop i t) ≤ i + n - i = omega (arith, length-drop i t) in
      let none : length t ≤ i + n = omega arith in
      record {
        more = omega arith;
        within = omega arith;
        first_is =
            lines_last (drop i t) (omega (arith, length-drop i t)) (omega (arith, count, length-drop i t))
            ∙ ap (λ (l : List ℕ). l ∷ []) (sym (take_all (i + n - i) (drop i t) all))
            ∙ ap (λ (l : List ℕ). take (i + n - i) (drop i t) ∷ lines_of l) (sym (drop_of_length-le t none));
      }

  pub line_inner : (i + n ≡ length t → ⊥) → IsLine t i (i + n + 1)
  line_inner e =
      let j = suc (leading (is_not 10) (drop i t)) in
      let x : j ≡ i + n + 1 - i = omega (arith, count) in
      let y : i + j ≡ i + n + 1 = omega (arith, count) in
      record {
        more = omega arith;
        within = omega (arith, most, e);
        first_is =
            lines_inner (drop i t) (omega (arith, count, most, e, length-drop i t))
            ∙ ap (λ (k : ℕ). take k (drop i t) ∷ lines_of (drop j (drop i t))) x
            ∙ ap (λ (l : List ℕ). take (i + n + 1 - i) (drop i t) ∷ lines_of l) (drop-drop j i t ∙ ap (λ (k : ℕ). drop k t) y);
      }

-- ---- the loop of `read_listing`: the text t from place i on is left to be read, from line n on, and the buffer was o₀
pub record ListingTurn (t o₀ : List ℕ) (i n at : ℕ) (o : List ℕ) : Type 0 where
  pub inside : i ≤ length t
  pub few : n ≤ i + 1
  pub room : at ≤ length o
  pub same : length o ≡ length o₀
  pub rest : outcome_from n at o (lines_of (drop i t)) ≡ outcome t o₀

-- what `read_listing` ensures
pub record Reads (t o₀ : List ℕ) (r : Result ℕ ListingFault) (o : List ℕ) : Type 0 where
  pub answer : r ≡ (outcome t o₀).answer
  pub bytes : o ≡ (outcome t o₀).left

pub reading_start : (t o : List ℕ) → ListingTurn t o 0 1 0 o
unfolding outcome
reading_start t o = record { inside = omega arith; few = omega arith; room = omega arith; same = refl; rest = refl }

module _ {t o₀ : List ℕ} {i n at : ℕ} {o : List ℕ} (g : ListingTurn t o₀ i n at o) where
  pub reading_end : length t ≤ i → Reads t o₀ (Ok at) o
  unfolding outcome_from lines_of
  reading_end h =
      let e : record { answer = Ok at; left = o } ≡ outcome t o₀ = sym (ap (λ (l : List ℕ). outcome_from n at o (lines_of l)) (drop_of_length-le t h)) ∙ g.rest in
      record { answer = ap (λ (x : ListingOutcome). x.answer) e; bytes = ap (λ (x : ListingOutcome). x.left) e }

  module _ {j : ℕ} (is : IsLine t i j) (r : Result ℕ Unread) (o' : List ℕ)
      (answer : r ≡ read_answer (meant at (take (j - i) (drop i t))) at o) (bytes : o' ≡ read_left (meant at (take (j - i) (drop i t))) at o) where
    after : after_line n o' r (λ k. outcome_from (n + 1) (at + k) o' (lines_of (drop j t))) ≡ outcome t o₀
    unfolding outcome_from
    after = rw (answer, bytes) (sym (ap (outcome_from n at o) is.first_is) ∙ g.rest)

    pub reading_on : (k : ℕ) → r ≡ Ok k → at + k ≤ length o' → length o' ≡ length o → ListingTurn t o₀ j (n + 1) (at + k) o'
    reading_on k e h s = record { inside = is.within; few = omega (arith, g.few, is.more); room = h; same = s ∙ g.same; rest = rw e at after }

    pub reading_wrong : (u : Unread) → r ≡ Err u → Reads t o₀ (Err (record { line = n; why = u })) o'
    reading_wrong u e =
        let a = rw e at after in
        record { answer = ap (λ (x : ListingOutcome). x.answer) a; bytes = ap (λ (x : ListingOutcome). x.left) a }

  -- the same by whether the line was read, and by where the text ends then
  module _ {j : ℕ} (is : IsLine t i j) (r : Result (Unit {0}) Unread) (e' : ℕ) (o' : List ℕ)
      (answer : r ≡ taken (read_answer (meant at (take (j - i) (drop i t))) at o)) (end : e' ≡ read_end (meant at (take (j - i) (drop i t))) at o)
      (bytes : o' ≡ read_left (meant at (take (j - i) (drop i t))) at o) where
    on_by : (x : Result ℕ Unread) → x ≡ read_answer (meant at (take (j - i) (drop i t))) at o → r ≡ Ok tt → e' ≤ length o' → ListingTurn t o₀ j (n + 1) e' o'
    on_by (Ok k) q h w =
        let z : e' ≡ at + k = end ∙ ap (end_by at) (sym q) in
        let same = ap length bytes ∙ left_length (meant at (take (j - i) (drop i t))) at o in
        subst (λ (a : ℕ). ListingTurn t o₀ j (n + 1) a o') (sym z) (reading_on is (Ok k) o' q bytes k refl (omega (arith, z, w)) same)
    on_by (Err u) q h w = absurd (let y : Ok tt ≡ Err u = sym h ∙ answer ∙ ap taken (sym q) in cc)

    pub taken_on : r ≡ Ok tt → e' ≤ length o' → ListingTurn t o₀ j (n + 1) e' o'
    taken_on = on_by (read_answer (meant at (take (j - i) (drop i t))) at o) refl

    wrong_by : (x : Result ℕ Unread) → x ≡ read_answer (meant at (take (j - i) (drop i t))) at o → (u : Unread) → r ≡ Err u
        → Reads t o₀ (Err (record { line = n; why = u })) o'
    wrong_by (Ok k) q u h = absurd (let y : Err u ≡ Ok tt = sym h ∙ answer ∙ ap taken (sym q) in cc)
    wrong_by (Err w) q u h =
        let y : Err u ≡ Err w = sym h ∙ answer ∙ ap taken (sym q) in
        let z : u ≡ w = cc in
        reading_wrong is (Err w) o' q bytes u (ap (λ (x : Unread). Err x) (sym z))

    pub taken_wrong : (u : Unread) → r ≡ Err u → Reads t o₀ (Err (record { line = n; why = u })) o'
    taken_wrong = wrong_by (read_answer (meant at (take (j - i) (drop i t))) at o) refl
