-- What users of `line_words` may cite, each law stated in full and proved where it is named. The contracts of src/ are
-- the rest.
use Prim.Native.Nat.{ℕ, ◌+◌, ◌^◌, ◌≤◌, ◌<◌}
use mathlib.Core.Bool.{Bool, true, false, ◌&&◌}
use mathlib.Core.List.{List, ◌++◌}
use mathlib.Core.Path.{◌≡◌}
use lib.Dec.{T, eqb}
use lib.ListN.{length, get_or}
use Rattle.hexadecimal.specs.Hex.{is_blank}
use Rattle.text_buffer.specs.Decimal.{decimal}
use Rattle.line_words.specs.Words.{leading, is_in_word, Word, first_word, IsAt, same_bytes}
use Rattle.line_words.specs.Numbers.{is_digit, number_in}
use Rattle.line_words.specs.declared.Place.{Place}
use Rattle.std.specs.Prelude.{Ok}
use Rattle.line_words.proofs.Leading as leads
use Rattle.line_words.proofs.Wording as wording
use Rattle.line_words.proofs.Same as same
use Rattle.line_words.proofs.Decimals as decimals
-- `all p l`: every character of l passes the test p. `stops p l`: the first does not, or there is none.
-- `Counting p s n`: n characters of s pass, and the rest is to be counted. `Counted p s n`: n is the answer.
pub use Rattle.line_words.proofs.Leading.{all, stops, Counting, Counted}

-- ---- texts that pass a test
pub truth : (b : Bool) → T b → b ≡ true
truth = leads.truth

pub both : (x y : Bool) → T x → T y → T (x && y)
both = leads.both

pub all_append : (p : ℕ → Bool) (a b : List ℕ) → T (all p a) → T (all p b) → T (all p (a ++ b))
all_append = leads.all_append

-- a text that passes, and goes on with one that does not, has as many leading characters as it is long
pub all_leading : (p : ℕ → Bool) (a r : List ℕ) → T (all p a) → T (stops p r) → leading p (a ++ r) ≡ length a
all_leading = leads.all_leading

-- a loop that counts them: its start, a turn, and the two ways out
pub counting_start : (p : ℕ → Bool) (s : List ℕ) → Counting p s 0
counting_start = leads.counting_start

module _ {p : ℕ → Bool} {s : List ℕ} {n : ℕ} (c : Counting p s n) where
  pub counting_end : length s ≤ n → Counted p s n
  counting_end = leads.counting_end c

  pub counting_more : n < length s → p (get_or s n 0) ≡ true → Counting p s (n + 1)
  counting_more = leads.counting_more c

  pub counting_stop : n < length s → p (get_or s n 0) ≡ false → Counted p s n
  counting_stop = leads.counting_stop c

-- ---- words
-- blanks, a word, and what does not go on with it: the word is the first
pub first_word_lem : (p : ℕ) (b w r : List ℕ) → T (all is_blank b) → T (all is_in_word w) → T (stops is_blank w) → 0 < length w → T (stops is_in_word r)
    → first_word p (b ++ (w ++ r)) ≡ record { column = p + length b; bytes = w; rest = r }
first_word_lem = wording.first_word_lem

-- blanks alone have no word
pub last_blanks : (p : ℕ) (b : List ℕ) → T (all is_blank b) → length (first_word p b).bytes ≡ 0
last_blanks = wording.last_blanks

-- the place that the code finds tells whether there is a word
module _ {line : List ℕ} {r : Place} {w : Word} (i : IsAt line r w) where
  pub no_word : r.start ≡ r.end → eqb (length w.bytes) 0 ≡ true
  no_word = wording.no_word i

  pub a_word : (r.start ≡ r.end → ⊥) → eqb (length w.bytes) 0 ≡ false
  a_word = wording.a_word i

-- texts that are found the same are
pub same_sound : (xs ys : List ℕ) → T (same_bytes xs ys) → xs ≡ ys
same_sound = same.same_sound

-- ---- numbers
-- the decimal text of a number is digits, and a word of 64 bits is read back from it
pub decimal_digits : (n : ℕ) → T (all (is_digit 10) (decimal n))
decimal_digits = decimals.decimal_digits

pub decimal_back : (n : ℕ) → n < 2 ^ 64 → number_in 10 (decimal n) ≡ Ok n
decimal_back = decimals.decimal_back
