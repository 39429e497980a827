-- What users of `encoding` may cite. The contracts of src/lib.rt are the rest.
use mathlib.Core.List.{List, [], ◌∷◌, ◌++◌}
use mathlib.Core.Path.{◌≡◌}
use Prim.Native.Nat.{ℕ, ◌+◌, ◌-◌, ◌^◌, ◌≤◌, ◌<◌}
use lib.ListN.{length, take, drop, set}
use borrow.Rule.Slice.PartMut.{put_mid}
use Rattle.encoding.specs.BigEndian.{big_endian, big_bytes}
use Rattle.encoding.specs.LittleEndian.{little_endian, little_bytes}
use Rattle.encoding.specs.Written.{written_at}
use Rattle.encoding.specs.Ranges.{Below, AllBytes}
use Rattle.encoding.proofs.Reading as reading
use Rattle.encoding.proofs.BigBytes as big
use Rattle.encoding.proofs.LittleNumbers as little
use Rattle.encoding.proofs.Writing as writing
use Rattle.encoding.proofs.Ranges as ranges

-- ---- lists of numbers below b. That a slice of the code is such a list, with its type's b, is the contract of
-- `bytes_known` and `words_known`.
module _ (b : ℕ) where
  pub below_cons : (x : ℕ) (l : List ℕ) → x < b → Below b l → Below b (x ∷ l)
  below_cons = ranges.below_cons b

  pub below_append : (k l : List ℕ) → Below b k → Below b l → Below b (k ++ l)
  below_append = ranges.below_append b

  pub below_take : (n : ℕ) (l : List ℕ) → Below b l → Below b (take n l)
  below_take = ranges.below_take b

  pub below_drop : (n : ℕ) (l : List ℕ) → Below b l → Below b (drop n l)
  below_drop = ranges.below_drop b

  pub below_set : (l : List ℕ) (i x : ℕ) → x < b → Below b l → Below b (set l i x)
  below_set = ranges.below_set b

-- ---- numbers in bytes, least significant byte first
pub length_little : (n v : ℕ) → length (little_bytes n v) ≡ n
length_little = little.length_little

-- a number that n bytes can hold is the number of its n bytes
pub little_of_bytes : (n v : ℕ) → v < 256 ^ n → little_endian (little_bytes n v) ≡ v
little_of_bytes = little.little_of_bytes

-- of bytes: the number fits them, and they are its bytes
pub little_below : (bs : List ℕ) → AllBytes bs → little_endian bs < 256 ^ length bs
little_below = little.little_below

pub bytes_of_little : (bs : List ℕ) → AllBytes bs → little_bytes (length bs) (little_endian bs) ≡ bs
bytes_of_little = little.bytes_of_little

-- ---- and most significant byte first, likewise
pub big_below : (e : List ℕ) (i n : ℕ) → AllBytes e → big_endian e i n < 256 ^ n
big_below = reading.big_below

pub length_big : (n v : ℕ) → length (big_bytes n v) ≡ n
length_big = big.length_big

-- the bytes of the number that stands in n bytes of a list are these bytes
pub bytes_of_big : (e : List ℕ) (i n : ℕ) → AllBytes e → i + n ≤ length e → big_bytes n (big_endian e i n) ≡ take n (drop i e)
bytes_of_big = big.bytes_of_big

-- ---- a list with bytes written into it
module _ (l : List ℕ) (a : ℕ) where
  pub written_length : (e : List ℕ) → length (written_at l a e) ≡ length l
  written_length = writing.written_length l a

  pub written_nothing : written_at l a [] ≡ l
  written_nothing = writing.written_nothing l a

  -- writing e and then f behind it is writing e ++ f
  pub written_more : (e f : List ℕ) → written_at (written_at l a e) (a + length e) f ≡ written_at l a (e ++ f)
  written_more = writing.written_more l a

  pub written_store : (v : ℕ) → set l a v ≡ written_at l a (v ∷ [])
  written_store = writing.written_store l a

  -- every byte outside is as before
  pub written_form : (e : List ℕ) → a + length e ≤ length l → written_at l a e ≡ take a l ++ (e ++ drop (a + length e) l)
  written_form = writing.written_form l a

  -- up to n, which is not behind e: what stood before a, and e
  pub written_upto : (e : List ℕ) (n : ℕ) → n ≤ length l → n ≤ a + length e → take n (written_at l a e) ≡ take n (take a l ++ e)
  written_upto = writing.written_upto l a

  -- behind e every byte is as before; behind the end of l nothing is written
  pub written_behind : (e : List ℕ) (n : ℕ) → a + length e ≤ n → drop n (written_at l a e) ≡ drop n l
  written_behind = writing.written_behind l a

  pub written_past : (e : List ℕ) → length l ≤ a → written_at l a e ≡ l
  written_past = writing.written_past l a

  -- a copy to a part that is lent as `&mut l[a..a + k]`
  pub part_copied : (k : ℕ) (e : List ℕ) → a + length e ≤ length l → length e ≡ k → put_mid a k l e ≡ written_at l a e
  part_copied = writing.part_copied l a

  -- the bytes written are read back
  pub written_read : (e : List ℕ) → a + length e ≤ length l → take (length e) (drop a (written_at l a e)) ≡ e
  written_read = writing.written_read l a

-- ---- the free part of a buffer l, lent out as `&mut l[u..]` and come back
module _ (l : List ℕ) (u : ℕ) where
  pub part_lent : take (length l - u) (drop u l) ≡ drop u l
  part_lent = writing.part_lent l u

  pub part_length : length (take (length l - u) (drop u l)) ≡ length l - u
  part_length = writing.part_length l u

  module _ (h : u ≤ length l) where
    -- as p; with e written at its front; unchanged
    pub part_back : (p : List ℕ) → take u l ++ (p ++ drop (length l - u) (drop u l)) ≡ take u l ++ p
    part_back = writing.part_back l u h

    pub part_written : (e : List ℕ) → take u l ++ (written_at (take (length l - u) (drop u l)) 0 e ++ drop (length l - u) (drop u l)) ≡ written_at l u e
    part_written = writing.part_written l u h

    pub part_same : take u l ++ (take (length l - u) (drop u l) ++ drop (length l - u) (drop u l)) ≡ l
    part_same = writing.part_same l u h
