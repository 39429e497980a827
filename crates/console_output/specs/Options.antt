-- Which words of a command are options.
use Rattle.std.specs.Prelude.{ℕ, Bool, ◌&&◌, List, leb, eqb, length, get_or}

-- the word begins with two hyphens
unfoldable pub is_option : List ℕ → Bool
is_option l = leb 2 (length l) && (eqb (get_or l 0 0) 45 && eqb (get_or l 1 0) 45)
