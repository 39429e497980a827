-- Text in a buffer that may be too short for it. Assumes nothing.
use Rattle.std.specs.Prelude.{ℕ, ◌+◌, ◌≤◌, ◌<◌, min, ◌≡◌, List, [], ◌∷◌, length, take}
use Prim.Native.Char.{code}
use Prim.Native.String.{String, [] as no_character, ◌∷◌ as ◌then◌}
use Rattle.encoding.specs.Written.{written_at}

-- the first n bytes of the buffer b are the text l: all of it, or as much as b has room for
pub record Text (b : List ℕ) (n : ℕ) (l : List ℕ) : Type 0 where
  pub within : n ≤ length b
  pub most : n ≤ length l
  pub all : n < length b → n ≡ length l
  pub same : take n b ≡ take n l

-- from the buffer b, whose text ends at n, to the buffer b', whose text ends at n', the bytes s are appended to the
-- text: they stand from n on, as far as the buffer goes, and every other byte is as it was; the text then ends behind
-- them, or where the buffer ends
pub record Appends (b : List ℕ) (n : ℕ) (s b' : List ℕ) (n' : ℕ) : Type 0 where
  pub bytes : b' ≡ written_at b n s
  pub ends : n' ≡ min (length b) (n + length s)

-- the bytes of a text of ASCII characters
abbrev pub bytes_of : String → List ℕ
bytes_of no_character = []
bytes_of (c then s) = code c ∷ bytes_of s
