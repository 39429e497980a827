-- Two spans in one buffer: the one at its start, the other at its end.
use Rattle.std.specs.Prelude.{ℕ, ◌+◌, ◌-◌, cond, List, ◌++◌, leb, length, take, drop}

-- the last n bytes; all where there are fewer
unfoldable pub last_of : ℕ → List ℕ → List ℕ
last_of n l = drop (length l - n) l

-- n bytes from `from` stand at the end, and all before them are as they were; bytes that do not lie in l are not moved
unfoldable pub moved_to_end : List ℕ → ℕ → ℕ → List ℕ
moved_to_end l from n = cond (leb (from + n) (length l)) (take (length l - n) l ++ take n (drop from l)) l
