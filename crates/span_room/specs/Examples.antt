-- Bytes moved to the end, where old and new place overlap too. Assumes nothing.
use Rattle.std.specs.Prelude.{[], ◌∷◌, ◌≡◌, refl}
use Rattle.span_room.specs.Room.{last_of, moved_to_end}

moved : moved_to_end (1 ∷ 2 ∷ 3 ∷ 4 ∷ 0 ∷ []) 1 3 ≡ 1 ∷ 2 ∷ 2 ∷ 3 ∷ 4 ∷ []
unfolding moved_to_end
moved = refl

not_moved : moved_to_end (1 ∷ 2 ∷ 3 ∷ []) 1 3 ≡ 1 ∷ 2 ∷ 3 ∷ []
unfolding moved_to_end
not_moved = refl

last : last_of 2 (1 ∷ 2 ∷ 3 ∷ []) ≡ 2 ∷ 3 ∷ []
unfolding last_of
last = refl
