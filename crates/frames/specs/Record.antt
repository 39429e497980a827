-- The records of a frame (document 01, "Frames").
use Rattle.std.specs.Prelude.{Bool, cond, ◌&&◌, List, [], ◌∷◌, ◌++◌, ℕ, ◌+◌, ◌^◌, ◌≤◌, ◌<◌, length, get_or, take, drop, leb, ltb, eqb}
use Rattle.sizes.specs.Sizes.{variable_count, record_most}
use Rattle.encoding.specs.LittleEndian.{little_endian, little_bytes}

pub data Record : Type 0 where
  -- address, the bytes
  memory : ℕ → List ℕ → Record
  -- number, value
  variable : ℕ → ℕ → Record

-- "Memory record: 4d, address (8 bytes), length (2), the bytes. Variable record: 56, number (4), value (8)."
unfoldable pub encode : Record → List ℕ
encode (memory address bytes) = 0x4d ∷ (little_bytes 8 address ++ (little_bytes 2 (length bytes) ++ bytes))
encode (variable number value) = 0x56 ∷ (little_bytes 4 number ++ little_bytes 8 value)

unfoldable pub encode_all : List Record → List ℕ
encode_all [] = []
encode_all (r ∷ rs) = encode r ++ encode_all rs

-- the number of bytes of a record
abbrev pub size : Record → ℕ
size (memory address bytes) = 11 + length bytes
size (variable number value) = 13

-- a record that its fields can hold, and that a reader does not refuse
pub record WellFormedMemory (address : ℕ) (bytes : List ℕ) : Type 0 where
  pub address_fits : address < 2 ^ 64
  pub some : 1 ≤ length bytes
  pub most : length bytes ≤ record_most

pub record WellFormedVariable (number value : ℕ) : Type 0 where
  pub number_fits : number < variable_count
  pub value_fits : value < 2 ^ 64

abbrev pub WellFormed : Record → Type 0
WellFormed (memory address bytes) = WellFormedMemory address bytes
WellFormed (variable number value) = WellFormedVariable number value

abbrev pub AllWellFormed : List Record → Type 0
AllWellFormed [] = Unit {0}
AllWellFormed (r ∷ rs) = WellFormed r × AllWellFormed rs

-- ---- reading
pub data Decoded : Type 0 where
  found : Record → Decoded
  broken : Decoded

-- the number in the n bytes from offset i on
abbrev pub field : List ℕ → ℕ → ℕ → ℕ
field l i n = little_endian (take n (drop i l))

-- l has n bytes or more. Only the first n are counted, so that the division of a frame does not count all that is left
-- at each record.
abbrev pub has : ℕ → List ℕ → Bool
has n l = leb n (length (take n l))

-- with all its bytes there, and "memory lengths 1 or more"
unfoldable pub decode_memory : List ℕ → Decoded
decode_memory l =
    cond
    (has 11 l && leb 1 (field l 9 2) && has (field l 9 2) (drop 11 l))
    (found (memory (field l 1 8) (take (field l 9 2) (drop 11 l))))
    broken

-- "variables below 64", by all 4 bytes of the number
unfoldable pub decode_variable : List ℕ → Decoded
decode_variable l = cond (has 13 l && ltb (field l 1 4) variable_count) (found (variable (field l 1 4) (field l 5 8))) broken

-- the record at the front of the bytes; any other mark is broken, and so is no byte at all
unfoldable pub decode : List ℕ → Decoded
decode l = cond (eqb (get_or l 0 0) 0x4d) (decode_memory l) (cond (eqb (get_or l 0 0) 0x56) (decode_variable l) broken)
