-- Laws of the parts of a text, for the proofs of the functions of `parts`. Assumes nothing.
use Prim.Native.Nat.{ℕ, ◌+◌, ◌-◌, ◌≤◌}
use native.Mathlib.Omega.{arith}
use mathlib.Core.Bool.{Bool, true, false}
use mathlib.Core.List.{List, [], ◌∷◌, ◌++◌, append-nil, append_assoc}
use mathlib.Core.Path.{◌≡◌, refl, sym, ap, ◌∙◌}
use lib.ListN.{length, take, drop, drop_of_length-le}
use lib.Seq.{take-add, drop-drop}
use Rattle.listing.specs.Listing.{joined_lines, lines_of, IsLine}
use Rattle.listing.specs.Parts.{is_scope, before_scope, from_scope, scopes, IsScopeFrom, IsPart}

-- ---- two parts of a text that follow each other
joined_parts : (t : List ℕ) (i j k : ℕ) → i ≤ j → j ≤ k → take (j - i) (drop i t) ++ take (k - j) (drop j t) ≡ take (k - i) (drop i t)
joined_parts t i j k h g =
    let a : i + (j - i) ≡ j = omega arith in
    let b : j - i + (k - j) ≡ k - i = omega arith in
    ap (λ (l : List ℕ). take (j - i) (drop i t) ++ take (k - j) l) (sym (drop-drop (j - i) i t ∙ ap (λ (n : ℕ). drop n t) a))
    ∙ sym (take-add (j - i) (k - j) (drop i t))
    ∙ ap (λ (n : ℕ). take n (drop i t)) b

-- ---- the loop of `scope_from`: the lines from i up to j are none with `Scope:`
pub record Seeking (t : List ℕ) (i j : ℕ) : Type 0 where
  pub after : i ≤ j
  pub within : j ≤ length t
  pub passed : joined_lines (before_scope (lines_of (drop i t))) ≡ take (j - i) (drop i t) ++ joined_lines (before_scope (lines_of (drop j t)))
  pub rest : from_scope (lines_of (drop i t)) ≡ from_scope (lines_of (drop j t))

pub seeking_start : (t : List ℕ) (i : ℕ) → i ≤ length t → Seeking t i i
seeking_start t i h =
    let z : 0 ≡ i - i = omega arith in
    record {
      after = omega arith;
      within = h;
      passed = ap (λ (n : ℕ). take n (drop i t) ++ joined_lines (before_scope (lines_of (drop i t)))) z;
      rest = refl;
    }

module _ {t : List ℕ} {i j : ℕ} (s : Seeking t i j) where
  pub seeking_end : length t ≤ j → IsScopeFrom t i j
  unfolding before_scope from_scope lines_of
  seeking_end h =
      let none : lines_of (drop j t) ≡ [] = rw (drop_of_length-le t h) refl in
      record {
        after = s.after;
        within = s.within;
        before_is = s.passed ∙ ap (λ (ls : List (List ℕ)). take (j - i) (drop i t) ++ joined_lines (before_scope ls)) none ∙ append-nil (take (j - i) (drop i t));
        from_is = s.rest ∙ ap from_scope none ∙ sym none;
      }

  module _ {k : ℕ} (is : IsLine t j k) (r : Bool) (e : r ≡ is_scope (take (k - j) (drop j t))) where
    pub seeking_stop : r ≡ true → IsScopeFrom t i j
    unfolding before_scope from_scope
    seeking_stop q =
        let l = take (k - j) (drop j t) in
        let ls = lines_of (drop k t) in
        let scoped : is_scope l ≡ true = sym e ∙ q in
        let none : before_scope (l ∷ ls) ≡ [] = rw scoped refl in
        let all : from_scope (l ∷ ls) ≡ l ∷ ls = rw scoped refl in
        record {
          after = s.after;
          within = s.within;
          before_is = s.passed ∙ ap (λ (m : List (List ℕ)). take (j - i) (drop i t) ++ joined_lines m) (ap before_scope is.first_is ∙ none) ∙ append-nil (take (j - i) (drop i t));
          from_is = s.rest ∙ ap from_scope is.first_is ∙ all ∙ sym is.first_is;
        }

    pub seeking_on : r ≡ false → Seeking t i k
    unfolding before_scope from_scope
    seeking_on q =
        let l = take (k - j) (drop j t) in
        let ls = lines_of (drop k t) in
        let other : is_scope l ≡ false = sym e ∙ q in
        let one : before_scope (l ∷ ls) ≡ l ∷ before_scope ls = rw other refl in
        let past : from_scope (l ∷ ls) ≡ from_scope ls = rw other refl in
        let a = take (j - i) (drop i t) in
        record {
          after = omega (arith, s.after, is.more);
          within = is.within;
          passed = s.passed ∙ ap (λ (m : List (List ℕ)). a ++ joined_lines m) (ap before_scope is.first_is ∙ one)
              ∙ sym (append_assoc a l (joined_lines (before_scope ls)))
              ∙ ap (λ (m : List ℕ). m ++ joined_lines (before_scope ls)) (joined_parts t i j k s.after (omega (arith, is.more)));
          rest = s.rest ∙ ap from_scope is.first_is ∙ past;
        }

-- ---- the parts of lines: those before the first `Scope:` are in none
module _ (l : List ℕ) (ls : List (List ℕ)) where
  from_here : is_scope l ≡ true → from_scope (l ∷ ls) ≡ l ∷ ls
  unfolding from_scope
  from_here e = rw e

  from_later : is_scope l ≡ false → from_scope (l ∷ ls) ≡ from_scope ls
  unfolding from_scope
  from_later e = rw e

  scopes_later : is_scope l ≡ false → scopes (l ∷ ls) ≡ scopes ls
  unfolding scopes
  scopes_later e = rw e

scopes_by : (b : Bool) (l : List ℕ) (ls : List (List ℕ)) → is_scope l ≡ b → scopes ls ≡ scopes (from_scope ls) → scopes (l ∷ ls) ≡ scopes (from_scope (l ∷ ls))
scopes_by true l ls e p = ap scopes (sym (from_here l ls e))
scopes_by false l ls e p = scopes_later l ls e ∙ p ∙ ap scopes (sym (from_later l ls e))

scopes_from : (ls : List (List ℕ)) → scopes ls ≡ scopes (from_scope ls)
unfolding from_scope
scopes_from [] = refl
scopes_from (l ∷ ls) = scopes_by (is_scope l) l ls refl (scopes_from ls)

first_by : (b : Bool) (l : List ℕ) (ls : List (List ℕ)) → is_scope l ≡ b → ((m : List ℕ) (ms : List (List ℕ)) → from_scope ls ≡ m ∷ ms → is_scope m ≡ true)
    → (m : List ℕ) (ms : List (List ℕ)) → from_scope (l ∷ ls) ≡ m ∷ ms → is_scope m ≡ true
first_by true l ls e p m ms q =
    let z : l ∷ ls ≡ m ∷ ms = sym (from_here l ls e) ∙ q in
    let y : l ≡ m = cc in
    ap is_scope (sym y) ∙ e
first_by false l ls e p m ms q = p m ms (sym (from_later l ls e) ∙ q)

from_first : (ls : List (List ℕ)) (m : List ℕ) (ms : List (List ℕ)) → from_scope ls ≡ m ∷ ms → is_scope m ≡ true
unfolding from_scope
from_first [] m ms q = let z : ◌≡◌ {A = ℕ} 0 1 = cc in absurd (omega arith)
from_first (l ∷ ls) m ms q = first_by (is_scope l) l ls refl (from_first ls) m ms q

module _ (t : List ℕ) {at s : ℕ} (f : IsScopeFrom t at s) where
  pub part_none : s ≡ length t → IsPart t at (record { start = s; end = s })
  unfolding scopes lines_of
  part_none e =
      let past : length t ≤ s = omega arith in
      record {
        after = f.after;
        ordered = omega arith;
        within = f.within;
        none = λ _. scopes_from (lines_of (drop at t)) ∙ ap scopes f.from_is ∙ ap (λ (l : List ℕ). scopes (lines_of l)) (drop_of_length-le t past);
        some = λ h. absurd (omega (arith, h));
      }

  pub part_some : {k j : ℕ} → IsLine t s k → IsScopeFrom t k j → IsPart t at (record { start = s; end = j })
  unfolding scopes
  part_some {k} {j} is g =
      let l = take (k - s) (drop s t) in
      let ls = lines_of (drop k t) in
      let scoped : is_scope l ≡ true = from_first (lines_of (drop at t)) l ls (f.from_is ∙ is.first_is) in
      let one : scopes (l ∷ ls) ≡ (l ++ joined_lines (before_scope ls)) ∷ scopes ls = rw scoped refl in
      let text : l ++ joined_lines (before_scope ls) ≡ take (j - s) (drop s t)
      = ap (λ (m : List ℕ). l ++ m) g.before_is ∙ joined_parts t s k j (omega (arith, is.more)) g.after in
      record {
        after = f.after;
        ordered = omega (arith, is.more, g.after);
        within = g.within;
        none = λ e. absurd (omega (arith, e, is.more, g.after));
        some = λ _. scopes_from (lines_of (drop at t)) ∙ ap scopes (f.from_is ∙ is.first_is) ∙ one ∙ ap (λ (m : List ℕ). m ∷ scopes ls) text
            ∙ ap (λ (m : List (List ℕ)). take (j - s) (drop s t) ∷ m) (scopes_from ls ∙ ap scopes g.from_is);
      }
