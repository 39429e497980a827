-- The search of tracenz: "up to and with the first zero byte, or SIZE bytes if none comes sooner" (document 01,
-- "Meanings the manual leaves open"), among bytes that may end before.
use Rattle.std.specs.Prelude.{◌≡◌, ℕ, zero, suc, ◌+◌, ◌-◌, ◌<◌, ◌≤◌, cond, ◌≢◌, List, [], ◌∷◌, length, ◌==◌, slice_index, slice_index_or}
use Rattle.memory.specs.declared.Search.{Search}
use Rattle.memory.specs.declared.Search.TheVariants.{Found, Reached, Ended}

-- how a search ends, and after how many bytes: "up to and with the first zero byte"; at "SIZE bytes", none of them
-- zero; or where the bytes end before that
pub data Sought : Type 0 where
  up_to_zero : ℕ → Sought
  all_of_size : ℕ → Sought
  cut_short : ℕ → Sought

-- the same for each case of the code's answer
abbrev pub sought_of : Search → Sought
sought_of (Found n) = up_to_zero n
sought_of (Reached n) = all_of_size n
sought_of (Ended n) = cut_short n

-- the outcome of a search that began k bytes further on
abbrev pub past : ℕ → Sought → Sought
past k (up_to_zero n) = up_to_zero (k + n)
past k (all_of_size n) = all_of_size (k + n)
past k (cut_short n) = cut_short (k + n)

-- the search among the first `size` bytes of a list
unfoldable pub searched : ℕ → List ℕ → Sought
searched zero l = all_of_size 0
searched (suc size) [] = cut_short 0
searched (suc size) (b ∷ l) = cond (b == 0) (up_to_zero 1) (past 1 (searched size l))

-- none of the first n bytes is zero
abbrev pub NoZero : ℕ → List ℕ → Type 0
NoZero n l = (i : ℕ) → i < n → slice_index l i ≢ 0

-- the n-th byte is the first zero, and is among the first `size`
pub record FirstZero (size : ℕ) (l : List ℕ) (n : ℕ) : Type 0 where
  pub some : 1 ≤ n
  pub zero_there : slice_index_or l (n - 1) 0 ≡ 0
  pub none_before : NoZero (n - 1) l
  pub in_size : n ≤ size
  pub in_bytes : n ≤ length l

-- the first `size` bytes exist, and none is zero
pub record NoneInSize (size : ℕ) (l : List ℕ) (n : ℕ) : Type 0 where
  pub all : n ≡ size
  pub exist : size ≤ length l
  pub none : NoZero size l

-- fewer than `size` bytes exist, and none is zero
pub record EndedBefore (size : ℕ) (l : List ℕ) (n : ℕ) : Type 0 where
  pub all : n ≡ length l
  pub fewer : length l < size
  pub none : NoZero (length l) l

-- what an outcome says of the bytes
abbrev pub Says : ℕ → List ℕ → Sought → Type 0
Says size l (up_to_zero n) = FirstZero size l n
Says size l (all_of_size n) = NoneInSize size l n
Says size l (cut_short n) = EndedBefore size l n
