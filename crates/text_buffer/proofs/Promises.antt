-- What users of `text_buffer` may cite. The contracts of src/ are the rest.
use Prim.Native.Nat.{ℕ, suc, ◌+◌, ◌/◌, ◌%◌, ◌^◌, ◌≤◌, ◌<◌}
use mathlib.Core.List.{List, [], ◌∷◌, ◌++◌, map}
use Prim.Native.String.{String}
use native.Mathlib.Omega.{arith}
use mathlib.Core.Path.{◌≡◌, refl, ◌∙◌}
use lib.Dec.{T}
use lib.ListN.{length, take, drop, get_or, drop_of_length-le}
use Rattle.io.specs.Counts.{IsPrefixLen}
use Rattle.io.specs.Digits.{last_digits, IsDigitCount}
use Rattle.text_buffer.specs.Text.{Text, Appends, bytes_of}
use Rattle.text_buffer.specs.Rows.{padded, all_fitting, trimmed}
use Rattle.text_buffer.specs.Decimal.{decimal_by, decimal}
use Rattle.text_buffer.proofs.Appending as appending
use Rattle.text_buffer.proofs.Decimals as decimals
use Rattle.text_buffer.proofs.Tables as tables

-- ---- numbers in decimal: one digit, or the digits before the last and the last
module _ (f n : ℕ) where
  pub one_digit : n < 10 → decimal_by (suc f) n ≡ (48 + n) ∷ []
  one_digit = decimals.one_digit f n

  pub more_digits : 10 ≤ n → decimal_by (suc f) n ≡ decimal_by f (n / 10) ++ ((48 + n % 10) ∷ [])
  more_digits = decimals.more_digits f n

-- the fewest digits of a number are its decimal text
pub digits_decimal : (k v : ℕ) → IsDigitCount 10 1 v k → last_digits 10 k v ≡ decimal v
digits_decimal = decimals.fewest_decimal

-- how many there are: of a word of 64 bits at most 20
pub decimal_some : (n : ℕ) → 0 < length (decimal n)
decimal_some = decimals.decimal_some

pub decimal_most : (n k : ℕ) → n < 10 ^ suc k → length (decimal n) ≤ suc k
decimal_most = decimals.decimal_most

pub decimal_least : (n k : ℕ) → 10 ^ k ≤ n → k < length (decimal n)
decimal_least = decimals.decimal_least

pub decimal_length : (v : ℕ) → v < 2 ^ 64 → length (decimal v) ≤ 20
decimal_length v h = decimals.decimal_most v 19 (omega (arith, h))

-- a number, as `append_number` ensures it, is appended in decimal
pub appends_number : {b b' : List ℕ} {n n' : ℕ} (v : ℕ) → ((k : ℕ) × IsDigitCount 10 1 v k × Appends b n (last_digits 10 k v) b' n') → Appends b n (decimal v) b' n'
appends_number v p = appending.appends_same (last_digits 10 p.0 v) (decimal v) (decimals.fewest_decimal p.0 v p.1) p.2

-- a place in a buffer, as the contracts' `count` says it
pub counts : (n : ℕ) (xs : List ℕ) → n ≤ length xs → IsPrefixLen n xs
counts = appending.counts

-- ---- texts put together
pub appends_then : {b b' b'' : List ℕ} {n n' n'' : ℕ} (s t : List ℕ) → Appends b n s b' n' → Appends b' n' t b'' n'' → Appends b n (s ++ t) b'' n''
appends_then s t p q = appending.appends_then s t p q

pub appends_same : {b b' : List ℕ} {n n' : ℕ} (s t : List ℕ) → s ≡ t → Appends b n s b' n' → Appends b n t b' n'
appends_same s t e p = appending.appends_same s t e p

pub appends_nothing : (b : List ℕ) (n : ℕ) → n ≤ length b → Appends b n [] b n
appends_nothing = appending.appends_nothing

-- where the text ends at the buffer's end, or is said to end behind it, nothing is written
pub appends_beyond : (b : List ℕ) (n : ℕ) (s : List ℕ) → length b ≤ n → Appends b n s b (length b)
appends_beyond = appending.appends_beyond

-- ---- what stands in the buffer then
module _ {b b' : List ℕ} {n n' : ℕ} {s : List ℕ} (p : Appends b n s b' n') where
  -- the text before it, and s: all of it, or as much as there is room for
  pub appends_text : (l : List ℕ) → Text b n l → Text b' n' (l ++ s)
  appends_text = appending.appends_text p

  -- every byte behind the text is as it was
  pub appends_past : drop n' b' ≡ drop n' b
  appends_past = appending.appends_past p

  -- the buffer is as long as it was
  pub appends_length : length b' ≡ length b
  appends_length = appending.appends_length p

  -- the text ends in the buffer
  pub appends_inside : n' ≤ length b'
  appends_inside = appending.appends_inside p

-- the first text of a buffer
pub text_of : {b b' : List ℕ} {n : ℕ} {s : List ℕ} → Appends b 0 s b' n → Text b' n s
text_of = appending.text_of

-- the parts of a text appended one after the other: `(more (more (one s p) t q) u r).text`
pub record Appended (b : List ℕ) (n : ℕ) (s b' : List ℕ) (n' : ℕ) : Type 0 where
  pub text : Appends b n s b' n'

pub one : {b b' : List ℕ} {n n' : ℕ} (s : List ℕ) → Appends b n s b' n' → Appended b n s b' n'
one s p = record { text = p }

pub more : {b b' b'' : List ℕ} {n n' n'' : ℕ} {s : List ℕ} → Appended b n s b' n' → (t : List ℕ) → Appends b' n' t b'' n'' → Appended b n (s ++ t) b'' n''
more {s = s} p t q = record { text = appending.appends_then s t p.text q }

-- ---- a loop that appends a text part by part: what is appended from here on is the rest of what is appended from the
-- start on
pub record Going (b₀ : List ℕ) (at : ℕ) (all rest b : List ℕ) (n : ℕ) : Type 0 where
  pub size : length b ≡ length b₀
  pub inside : n ≤ length b
  pub text : (b' : List ℕ) (n' : ℕ) → Appends b n rest b' n' → Appends b₀ at all b' n'

pub going_start : (b : List ℕ) (at : ℕ) (all : List ℕ) → at ≤ length b → Going b at all all b at
going_start b at all h = record { size = refl; inside = h; text = λ b' n' p. p }

pub going_part : {b₀ : List ℕ} {at : ℕ} {all rest b : List ℕ} {n : ℕ} → Going b₀ at all rest b n → (s more : List ℕ) → s ++ more ≡ rest
    → (b' : List ℕ) (n' : ℕ) → length b' ≡ length b → Appends b n s b' n' → Going b₀ at all more b' n'
going_part {rest = rest} g s more e b' n' same p = record {
  size = same ∙ g.size;
  inside = appending.appends_inside p;
  text = λ b'' n'' q. g.text b'' n'' (appending.appends_same (s ++ more) rest e (appending.appends_then s more p q));
}

pub going_end : {b₀ : List ℕ} {at : ℕ} {all rest b : List ℕ} {n : ℕ} → Going b₀ at all rest b n → [] ≡ rest → Appends b₀ at all b n
going_end {rest = rest} {b} {n} g e = g.text b n (appending.appends_same [] rest e (appending.appends_nothing b n g.inside))

-- no bytes are left behind the last
pub drop_out : (n : ℕ) (l : List ℕ) → length l ≤ n → drop n l ≡ []
drop_out n l h = drop_of_length-le l h

-- ---- a table of texts: row n has the table's width, and up to the spaces at its end it is text n
module _ (w : ℕ) (l : List String) (t : T (all_fitting w l)) (n : ℕ) (h : n < length l) where
  pub row_width : length (get_or (map (padded w) l) n []) ≡ w
  row_width = tables.row_width w l t n h

  pub row_text : (d : String) → take (trimmed (get_or (map (padded w) l) n [])) (get_or (map (padded w) l) n []) ≡ bytes_of (get_or l n d)
  row_text = tables.row_text w l t n h
