-- The bytes of an expression, in lines of hexadecimal.
use Rattle.std.specs.Prelude.{ℕ, zero, suc, cond, List, [], ◌++◌, eqb, length, take, drop}
use Rattle.text_buffer.specs.Text.{bytes_of}
use Rattle.hexadecimal.specs.Hex.{hex_of}

-- `bytes 220527`
unfoldable pub bytes_line : List ℕ → List ℕ
bytes_line l = bytes_of "bytes " ++ hex_of l ++ bytes_of "\n"

-- 40 bytes a line, at most n lines
unfoldable pub bytes_lines : ℕ → List ℕ → List ℕ
bytes_lines zero l = []
bytes_lines (suc n) l = cond (eqb (length l) 0) [] (bytes_line (take 40 l) ++ bytes_lines n (drop 40 l))

-- no bytes have no line; a line has at least one byte, so that the number of bytes is enough
unfoldable pub bytes_text : List ℕ → List ℕ
bytes_text e = bytes_lines (length e) e
