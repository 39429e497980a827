-- What users of `hexadecimal` may cite. The contracts of src/ are the rest.
use Prim.Native.Nat.{ℕ, suc, ◌+◌, ◌*◌, ◌≤◌, ◌<◌}
use mathlib.Core.Bool.{true}
use mathlib.Core.List.{List, [], ◌∷◌, ◌++◌}
use mathlib.Core.Path.{◌≡◌}
use lib.ListN.{length}
use Rattle.encoding.specs.Ranges.{AllBytes}
use Rattle.hexadecimal.specs.Hex.{all_lower, whole, with_bytes, read_from, reading_of, pair_of, hex_of}
use Rattle.hexadecimal.proofs.HexWriting as writing
use Rattle.hexadecimal.proofs.HexInverse as inverse

-- `AllBytes` holds of every slice of bytes that is lent: the contract of `encoding::bytes_known`, `lent_bytes` on the
-- page of the demands.

-- bytes written in hexadecimal are read back, where there is room for them
pub hex_read_back : (l : List ℕ) (room : ℕ) → AllBytes l → length l ≤ room → reading_of (hex_of l) room ≡ record { bytes = l; end = whole }
hex_read_back l room low h = writing.hex_back 0 room l low h

-- a text of 2 n lower-case digits is read whole, where there is room for n bytes, and the bytes that were read are
-- written as the same text
pub hex_write_back : (t : List ℕ) (n room : ℕ) → all_lower t ≡ true → length t ≡ 2 * n → n ≤ room → ((reading_of t room).end ≡ whole) × (hex_of (reading_of t room).bytes ≡ t)
hex_write_back t n room low e h = inverse.write_back 0 room n t low e h

-- of a text with blanks between the bytes: nothing, a blank, and a byte at its front
pub nothing_read : (p room : ℕ) → read_from p room [] ≡ record { bytes = []; end = whole }
nothing_read = writing.nothing_read

pub blank_read : (p room : ℕ) (s : List ℕ) → read_from p room (32 ∷ s) ≡ read_from (p + 1) room s
blank_read = writing.blank_read

pub pair_read : (p room b : ℕ) (s : List ℕ) → b < 256 → read_from p (suc room) (pair_of b ++ s) ≡ with_bytes (b ∷ []) (read_from (p + 2) room s)
pair_read = writing.pair_read
