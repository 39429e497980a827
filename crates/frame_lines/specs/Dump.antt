-- The lines that show recorded bytes: the address of the first, up to 16 bytes in hexadecimal, and the same bytes as
-- characters.
use Rattle.std.specs.Prelude.{ℕ, zero, suc, ◌+◌, ◌%◌, ◌^◌, cond, List, [], ◌∷◌, ◌++◌, take, drop, nat_lt}
use Rattle.hexadecimal.specs.Hex.{is_between, pair_of}
use Rattle.text_buffer.specs.Text.{bytes_of}
use Rattle.reader.specs.NextRecord.{RecordStep, Memory, Variable, Refused}
use Rattle.phrases.specs.Numbers.{hex_text}

-- a blank and the two digits of a byte; three blanks where there is no byte
abbrev pub cell : List ℕ → List ℕ
cell [] = bytes_of "   "
cell (b ∷ l) = 32 ∷ pair_of b

-- n cells
unfoldable pub column : ℕ → List ℕ → List ℕ
column zero l = []
column (suc n) l = cell l ++ column n (drop 1 l)

-- a byte as a character; a dot for one that is not printable ASCII
unfoldable pub shown_byte : ℕ → ℕ
shown_byte b = cond (is_between 32 126 b) b 46

unfoldable pub shown : List ℕ → List ℕ
shown [] = []
shown (b ∷ l) = shown_byte b ∷ shown l

unfoldable pub dump_line : ℕ → List ℕ → List ℕ
dump_line address l = bytes_of "    " ++ hex_text address ++ bytes_of " " ++ column 16 l ++ bytes_of "  |" ++ shown l ++ bytes_of "|\n"

-- of what the record walker tells of the buffer: the line of the record's bytes from offset o on, up to 16 of them; no
-- line past the last byte, and none of what is no memory record. Addresses are modulo 2^64.
unfoldable pub dump_text : List ℕ → RecordStep → ℕ → List ℕ
dump_text buffer (Memory address long place next) o =
    cond (nat_lt o long) (dump_line ((address + o) % 2 ^ 64) (take 16 (drop o (take long (drop place buffer))))) []
dump_text buffer (Variable number value next) o = []
dump_text buffer (Refused r) o = []
