-- The characters at the start of a text that pass a test: the loops that count them, and what they are. Assumes
-- nothing.
use Prim.Native.Nat.{ℕ, suc, ◌+◌, ◌≤◌, ◌<◌}
use native.Mathlib.Numerals.{add-one}
use native.Mathlib.Omega.{arith}
use mathlib.Core.Bool.{Bool, true, false, cond, not, ◌&&◌}
use mathlib.Core.List.{List, [], ◌∷◌, ◌++◌}
use mathlib.Core.Path.{◌≡◌, refl, ap, ◌∙◌}
use Rattle.std.specs.List.{prefix_len, take_while}
use Rattle.std.proofs.lemmas.List.Folds.{length-prefix_len}
use lib.Dec.{T}
use lib.ListN.{length, drop, get_or, drop_of_length-le}
use lib.Seq.{drop-cons}
use Rattle.logic.proofs.Promises.{and_left, and_right}
use Rattle.line_words.specs.Words.{leading}

-- n characters of the text s pass the test p, and the rest is to be counted
pub record Counting (p : ℕ → Bool) (s : List ℕ) (n : ℕ) : Type 0 where
  pub within : n ≤ length s
  pub count : leading p s ≡ n + leading p (drop n s)

pub counting_start : (p : ℕ → Bool) (s : List ℕ) → Counting p s 0
counting_start p s = record { within = omega arith; count = omega arith }

-- what a function that counts ensures
abbrev pub Counted : (ℕ → Bool) → List ℕ → ℕ → Type 0
Counted p s n = (n ≡ leading p s) × (n ≤ length s)

module _ {p : ℕ → Bool} {s : List ℕ} {n : ℕ} (c : Counting p s n) where
  pub counting_end : length s ≤ n → Counted p s n
  counting_end h = (omega (arith, c.count, ap (leading p) (drop_of_length-le s h)), c.within)

  module _ (more : n < length s) where
    starts : drop n s ≡ get_or s n 0 ∷ drop (n + 1) s
    starts = rw (add-one, drop-cons s n 0)

    pub counting_more : p (get_or s n 0) ≡ true → Counting p s (n + 1)
    counting_more t =
        let e : leading p (drop n s) ≡ suc (leading p (drop (n + 1) s)) = rw (starts, t) refl in
        record { within = omega arith; count = omega (arith, c.count, e) }

    pub counting_stop : p (get_or s n 0) ≡ false → Counted p s n
    counting_stop f =
        let e : leading p (drop n s) ≡ 0 = rw (starts, f) refl in
        (omega (arith, c.count, e), c.within)

-- ---- a text that passes as a whole, and one whose first character does not pass
abbrev pub all : (ℕ → Bool) → List ℕ → Bool
all p [] = true
all p (c ∷ l) = p c && all p l

abbrev pub stops : (ℕ → Bool) → List ℕ → Bool
stops p [] = true
stops p (c ∷ l) = not (p c)

pub truth : (b : Bool) → T b → b ≡ true
truth true t = refl
truth false t = absurd t

T_false : (b : Bool) → T (not b) → b ≡ false
T_false true t = absurd t
T_false false t = refl

pub stops_leading : (p : ℕ → Bool) (r : List ℕ) → T (stops p r) → leading p r ≡ 0
stops_leading p [] t = refl
stops_leading p (c ∷ r) t = rw (T_false (p c) t)

pub all_leading : (p : ℕ → Bool) (a r : List ℕ) → T (all p a) → T (stops p r) → leading p (a ++ r) ≡ length a
all_leading p [] r t u = stops_leading p r u
all_leading p (c ∷ a) r t u = rw (truth (p c) (and_left (p c) (all p a) t)) (ap suc (all_leading p a r (and_right (p c) (all p a) t) u))

pub both : (x y : Bool) → T x → T y → T (x && y)
both true y t u = u
both false y t u = absurd t

pub all_append : (p : ℕ → Bool) (a b : List ℕ) → T (all p a) → T (all p b) → T (all p (a ++ b))
all_append p [] b t u = u
all_append p (c ∷ a) b t u = both (p c) (all p (a ++ b)) (and_left (p c) (all p a) t) (all_append p a b (and_right (p c) (all p a) t) u)

-- ---- the library's words: a chain that takes characters while they pass
pub taken_leading : (p : ℕ → Bool) (s : List ℕ) → length (take_while p s) ≡ leading p s
taken_leading p s = length-prefix_len p s ∙ prefix_leading p s
  where
    prefix_leading : (p : ℕ → Bool) (s : List ℕ) → prefix_len p s ≡ leading p s
    prefix_leading p [] = refl
    prefix_leading p (c ∷ t) = elim (p c) as (λ b. cond b (1 + prefix_len p t) 0 ≡ cond b (suc (leading p t)) 0) [ true ↦ omega (arith, prefix_leading p t) | false ↦ refl ]

pub leading_within : (p : ℕ → Bool) (s : List ℕ) → leading p s ≤ length s
leading_within p [] = omega arith
leading_within p (c ∷ t) = elim (p c) as (λ b. cond b (suc (leading p t)) 0 ≤ suc (length t)) [ true ↦ omega (arith, leading_within p t) | false ↦ omega arith ]

pub taken : (p : ℕ → Bool) (s : List ℕ) {n : ℕ} → n ≡ length (take_while p s) → Counted p s n
taken p s e = (e ∙ taken_leading p s, omega (arith, e, taken_leading p s, leading_within p s))
