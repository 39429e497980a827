-- Document 01's table of numbers and, for each, the entries that give it: "Each refusal has one number from document
-- 01's table" (demand 1).
use Rattle.std.specs.Prelude.{Bool, true, cond, ◌&&◌, List, [], ◌∷◌, map, ◌≡◌, ℕ, ◌^◌, length, T, eqb, leb, ltb}
use Rattle.logic.specs.Tests.{member}
use Rattle.memory.specs.Fetch.{fetch_refusal}
use Rattle.sizes.specs.Sizes.{variable_count, tracepoint_most}
use Rattle.memory.specs.Spans.{Target}
use Rattle.machine.specs.Given.{Given, given}
use Rattle.machine.specs.Run.{ended, default_allowance}
use Rattle.machine.specs.Run as machine
use Rattle.verdict.specs.Verdict.{verdict}
use Rattle.reader.specs.Located.{located, walked}
use Rattle.reader.specs.Read.{reading, counting}
use Rattle.reader.specs.NextRecord.{next_record}
use Rattle.lilivrez_verifier.specs.VerdictNumbers as verifier
use Rattle.lilivrez_frames.specs.FrameValues.{read_number_of, count_number, locate_number, step_number}

pub data Entry : Type 0 where
  verify : Entry
  fetch : Entry
  run : Entry
  run_default : Entry
  read : Entry
  count : Entry
  locate : Entry
  walk : Entry
  next_record_of : Entry

unfoldable pub refusal_table : List (ℕ × List Entry)
refusal_table =
    -- "0 bytes, or more than 1,024"
    (1, verify ∷ run ∷ run_default ∷ [])
    -- "opcode unknown; unsupported"
    ∷ (2, verify ∷ run ∷ run_default ∷ []) ∷ (3, verify ∷ run ∷ run_default ∷ [])
    -- "operands cut short; ext 0 or variable above 63"
    ∷ (4, verify ∷ run ∷ run_default ∷ []) ∷ (5, verify ∷ run ∷ run_default ∷ [])
    -- "jump not to a start; jump not forward"
    ∷ (6, verify ∷ run ∷ run_default ∷ []) ∷ (7, verify ∷ run ∷ run_default ∷ [])
    -- "heights differ; too few cells; too many; runs off"
    ∷ (8, verify ∷ run ∷ run_default ∷ []) ∷ (9, verify ∷ run ∷ run_default ∷ [])
    ∷ (10, verify ∷ run ∷ run_default ∷ []) ∷ (11, verify ∷ run ∷ run_default ∷ [])
    -- "first address + length exceeds 2^64; spans share an address"
    ∷ (12, fetch ∷ run ∷ run_default ∷ []) ∷ (13, fetch ∷ run ∷ run_default ∷ [])
    -- "over 256 registers; buffer over 65,536 or used beyond its length"
    ∷ (14, run ∷ run_default ∷ []) ∷ (15, run ∷ run_default ∷ read ∷ count ∷ locate ∷ walk ∷ next_record_of ∷ [])
    -- "allowance spent"; the default of 1,024 never is
    ∷ (16, run ∷ [])
    -- "divisor zero; register number not lent"
    ∷ (17, run ∷ run_default ∷ []) ∷ (18, run ∷ run_default ∷ [])
    -- "range not readable"
    ∷ (19, fetch ∷ run ∷ run_default ∷ [])
    -- "record size above 65,535"
    ∷ (20, run ∷ run_default ∷ [])
    -- "record, or trailer at end, longer than the free bytes"
    ∷ (21, run ∷ run_default ∷ [])
    -- "reader: trailer broken; record broken"
    ∷ (22, read ∷ count ∷ locate ∷ walk ∷ []) ∷ (23, read ∷ count ∷ next_record_of ∷ [])
    -- "no such frame; no such record"
    ∷ (24, read ∷ count ∷ locate ∷ walk ∷ []) ∷ (25, read ∷ next_record_of ∷ [])
    ∷ []

-- ---- the numbers of an entry
abbrev pub place : Entry → ℕ
place verify = 0
place fetch = 1
place run = 2
place run_default = 3
place read = 4
place count = 5
place locate = 6
place walk = 7
place next_record_of = 8

abbrev pub numbers_in : Entry → List (ℕ × List Entry) → List ℕ
numbers_in x [] = []
numbers_in x (row ∷ rows) = cond (member (place x) (map place row.1)) (row.0 ∷ numbers_in x rows) (numbers_in x rows)

abbrev pub numbers_of : Entry → List ℕ
numbers_of x = numbers_in x refusal_table

-- ---- what an entry answers
-- what decides its refusal: an expression; spans, an address and a size; what a run is given; a buffer, its used length
-- or the walker's place, a frame's number and a record's; a buffer, the end of a frame's records and a place in it
abbrev pub Inputs : Entry → Type 0
Inputs verify = List ℕ
Inputs fetch = Target × ℕ × ℕ
Inputs run = Given
Inputs run_default = Given
Inputs read = List ℕ × ℕ × ℕ × ℕ
Inputs count = List ℕ × ℕ × ℕ
Inputs locate = List ℕ × ℕ × ℕ
Inputs walk = List ℕ × ℕ
Inputs next_record_of = List ℕ × ℕ × ℕ

-- "An entry without an allowance uses 1,024", whatever allowance stands in g
abbrev pub by_default : Given → Given
by_default g = given g.expression g.registers g.variables g.target g.tracepoint g.buffer g.used default_allowance

-- the number of the refusal that it gives, or 0 where it gives none
abbrev pub number : (x : Entry) → Inputs x → ℕ
number verify e = verifier.verdict_number (verdict e)
number fetch i = fetch_refusal i.0 i.1 i.2
number run g = machine.number_of (ended g)
number run_default g = machine.number_of (ended (by_default g))
number read i = read_number_of (reading i.0 i.1 i.2 i.3)
number count i = count_number (counting i.0 i.1 i.2)
number locate i = locate_number (located i.0 i.1 i.2)
number walk i = locate_number (walked i.0 i.1)
number next_record_of i = step_number (next_record i.0 i.1 i.2)

-- the inputs are what their types say: bytes below 256, numbers below 2^64, 64 variables
abbrev all_below : ℕ → List ℕ → Bool
all_below b [] = true
all_below b (x ∷ xs) = ltb x b && all_below b xs

abbrev typed_target : Target → Bool
typed_target t = all_below (2 ^ 64) (t.image.first ∷ t.work.first ∷ []) && all_below 256 t.image.bytes && all_below 256 t.work.bytes

abbrev typed_run : Given → Bool
typed_run g =
    all_below 256 g.expression && all_below (2 ^ 64) g.registers && all_below (2 ^ 64) g.variables && eqb (length g.variables) variable_count
    && typed_target g.target && leb g.tracepoint tracepoint_most && all_below 256 g.buffer && all_below (2 ^ 64) (g.used ∷ g.allowance ∷ [])

abbrev pub typed : (x : Entry) → Inputs x → Bool
typed verify e = all_below 256 e
typed fetch i = typed_target i.0 && all_below (2 ^ 64) (i.1 ∷ i.2 ∷ [])
typed run g = typed_run g
typed run_default g = typed_run g
typed read i = all_below 256 i.0 && all_below (2 ^ 64) (i.1 ∷ i.2 ∷ i.3 ∷ [])
typed count i = all_below 256 i.0 && all_below (2 ^ 64) (i.1 ∷ i.2 ∷ [])
typed locate i = all_below 256 i.0 && all_below (2 ^ 64) (i.1 ∷ i.2 ∷ [])
typed walk i = all_below 256 i.0 && all_below (2 ^ 64) (i.1 ∷ [])
typed next_record_of i = all_below 256 i.0 && all_below (2 ^ 64) (i.1 ∷ i.2 ∷ [])

-- on some inputs it gives the number r
abbrev pub Gives : Entry → ℕ → Type 0
Gives x r = (i : Inputs x) × T (typed x i) × (number x i ≡ r)
