-- What users of `span_room` may cite. The contracts of src/ are the rest.
use Prim.Native.Nat.{ℕ, ◌+◌, ◌≤◌}
use mathlib.Core.List.{List}
use mathlib.Core.Path.{◌≡◌}
use lib.ListN.{length, take, drop}
use Rattle.span_room.specs.Room.{last_of, moved_to_end}
use Rattle.span_room.proofs.Moving as moving

-- ---- n bytes from `from` are the last ones then, and those before `from` are as they were
module _ (l : List ℕ) (from n : ℕ) where
  pub last_moved : from + n ≤ length l → last_of n (moved_to_end l from n) ≡ take n (drop from l)
  last_moved = moving.last_moved l from n

  pub front_kept : (k : ℕ) → k ≤ from → take k (moved_to_end l from n) ≡ take k l
  front_kept = moving.front_kept l from n
