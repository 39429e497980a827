-- Rules over every opcode of the table, and the names. Assumes nothing.
use Prim.Native.Nat.{ℕ, ◌+◌, ◌≤◌, ◌<◌}
use Prim.Native.String.{String}
use native.Mathlib.Omega.{arith}
use mathlib.Core.Bool.{Bool, true, false, not, cond, ◌&&◌}
use mathlib.Core.List.{List, [], ◌∷◌, map}
use mathlib.Core.Path.{◌≡◌, refl, sym, ap, ◌∙◌}
use lib.Dec.{T, leb, eqb, ltb, leb→le}
use lib.ListN.{length, get_or, get_or-eq_default}
use borrow.Author.Tests.{lt-ltb}
use denote.Ref.{Bor}
use Rattle.std.specs.List.{position_or_len, position}
use Rattle.std.proofs.Common.{Option, Some, None, slice_index_or}
use Rattle.std.proofs.Math.ListN.{get_or-map as get_or-map_default}
use Rattle.std.proofs.lemmas.List.{get_or-map, length-map}
use Rattle.std.proofs.lemmas.List.Sums.{prefix_len-le-length}
use Rattle.std.specs.Str.{bytes_eq}
use Rattle.logic.specs.Tests.{up_to}
use Rattle.logic.proofs.Promises.{cases, up_to_lem}
use Rattle.text_buffer.specs.Text.{bytes_of}
use Rattle.line_words.specs.Words.{same_bytes, place_from}
use Rattle.instruction_text.specs.Names.{names, name_of, opcode_of}

-- ---- the place of a word among texts whose bytes are those of the names
same_is : (a b : List ℕ) → bytes_eq a b ≡ same_bytes a b
same_is [] [] = refl
same_is [] (y ∷ b) = refl
same_is (x ∷ a) [] = refl
same_is (x ∷ a) (y ∷ b) = ap (λ (t : Bool). eqb x y && t) (same_is a b)

first_of : (b : Bool) (k m n : ℕ) → k + 1 + m ≡ n → k + cond (not b) (1 + m) 0 ≡ cond b k n
first_of true k m n e = omega arith
first_of false k m n e = omega arith

place_is : (w : List ℕ) (xs : List (Bor (List ℕ))) (ss : List String) (k : ℕ) → map (λ x. x.now) xs ≡ map bytes_of ss → k + position_or_len (λ x. bytes_eq x.now w) xs ≡ place_from k ss w
unfolding place_from
place_is w [] [] k e = omega arith
place_is w [] (s ∷ ss) k e = absurd (cc)
place_is w (x ∷ xs) [] k e = absurd (cc)
place_is w (x ∷ xs) (s ∷ ss) k e =
    let h : x.now ≡ bytes_of s = cc in
    let t : map (λ x. x.now) xs ≡ map bytes_of ss = cc in
    let i = place_is w xs ss (k + 1) t in
    rw (h, same_is (bytes_of s) w) (first_of (same_bytes (bytes_of s) w) k _ _ i)

pub names_length : length names ≡ 53
unfolding names
names_length = refl

some_at : (b : Bool) (n : ℕ) (r : Option ℕ) → r ≡ cond b (Some n) None → (i : ℕ) → r ≡ Some i → i ≡ 0 + n
some_at true n r e i h = let k : n ≡ i = cc in omega (arith, k)
some_at false n r e i h = absurd (cc)

none_at : (n m : ℕ) (r : Option ℕ) → r ≡ cond (ltb n m) (Some n) None → r ≡ None → m ≤ n
none_at n m r e h = cases n m (λ l. absurd (let t = lt-ltb n m l in cc)) (λ l. l)

-- the texts xs are the names
module _ (xs : List (Bor (List ℕ))) (same : map (λ x. x.now) xs ≡ map bytes_of names) where
  pub name_at : (op : ℕ) (d : Bor (List ℕ)) → op < 53 → (slice_index_or xs op d).now ≡ name_of op
  unfolding name_of
  name_at op d h =
      let inside : op < length names = omega (arith, names_length) in
      sym (get_or-map_default (λ (x : Bor (List ℕ)). x.now) xs op d) ∙ (ap (λ (l : List (List ℕ)). get_or l op d.now) same ∙ get_or-map bytes_of names op "" d.now inside)

  pub texts_length : length xs ≡ 53
  texts_length = sym (length-map xs (λ (x : Bor (List ℕ)). x.now)) ∙ (ap length same ∙ (length-map names bytes_of ∙ names_length))

  module _ (w : List ℕ) (r : Option ℕ) (is : r ≡ position (λ (x : Bor (List ℕ)). bytes_eq x.now w) xs) where
    pub place_some : (op : ℕ) → r ≡ Some op → op ≡ opcode_of w
    unfolding opcode_of
    place_some op e = some_at _ _ r is op e ∙ place_is w xs names 0 same

    pub place_none : r ≡ None → 53 ≡ opcode_of w
    unfolding opcode_of
    place_none e =
        let i = place_is w xs names 0 same in
        omega (arith, none_at _ (length xs) r is e, texts_length, i, prefix_len-le-length (λ (x : Bor (List ℕ)). not (bytes_eq x.now w)) xs)

-- ---- no opcode above the table has a name
pub name_none : (op : ℕ) → 53 ≤ op → [] ≡ name_of op
unfolding name_of
name_none op h = let l : length names ≤ op = omega (arith, names_length) in rw (get_or-eq_default names "" l)

-- ---- a name has at most 15 characters
names_short : T (up_to 53 (λ op. leb (length (name_of op)) 15))
unfolding names name_of
names_short = tt

pub name_length : (op : ℕ) → length (name_of op) ≤ 15
name_length op =
    cases op 53
    (λ h. leb→le (length (name_of op)) 15 (up_to_lem 53 (λ op. leb (length (name_of op)) 15) names_short op h))
    (λ h. omega (arith, ap length (name_none op h)))
