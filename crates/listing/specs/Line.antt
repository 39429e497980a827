-- What a line of a listing says: an offset, which may be left out; a name; an operand, if the instruction has one.
-- Blanks stand between.
use Rattle.std.specs.Prelude.{ℕ, ◌+◌, ◌^◌, cond, List, [], ◌∷◌, ltb, leb, eqb, length, get_or, Option, None, Some, Result, Ok, Err}
use Rattle.encoding.specs.BigEndian.{big_bytes}
use Rattle.encoding.specs.Written.{written_at}
use Rattle.isa.specs.Classes.{class_of, row, kind, kind_unsupported}
use Rattle.instruction_text.specs.Names.{opcode_of}
use Rattle.line_words.specs.Words.{Word, first_word, behind}
use Rattle.line_words.specs.Numbers.{is_digit, number_in}
use Rattle.line_words.specs.declared.numbers.NumberError.{NumberError}
use Rattle.line_words.specs.declared.numbers.NumberError.TheVariants.{Large, Not}
use Rattle.listing.specs.Numbers.{signed_number}
use Rattle.listing.specs.declared.reading.LineFault.TheVariants.{WrongOffset, NoName, UnknownName, NoOperand, NotNumber, TooLarge, Trailing}
use Rattle.listing.specs.declared.reading.LineFault.{LineFault}
use Rattle.listing.specs.declared.reading.Instruction.{Instruction}
use Rattle.listing.specs.declared.reading.Fault.{Fault}
use Rattle.listing.specs.declared.reading.Unread.{Unread}
use Rattle.listing.specs.declared.reading.Unread.TheVariants.{NoRoom, Wrong}

-- what a line says: nothing, in an empty one; an opcode with its number of operand bytes and its operand; or a fault, at
-- a column counted from 0
abbrev pub ListingLine : Type 0
ListingLine = Result (Option Instruction) Fault

abbrev pub nothing : ListingLine
nothing = Ok None

abbrev pub instruction : ℕ → ℕ → ℕ → ListingLine
instruction op count v = Ok (Some (record { opcode = op; count = count; operand = v }))

abbrev pub wrong : LineFault → ℕ → ListingLine
wrong f c = Err (record { reason = f; column = c })

abbrev pub operands_of : ℕ → ℕ
operands_of op = get_or (row (class_of op)) 0 0

-- the answer is that of a word, or a where there is none
abbrev pub by_word : Word → ListingLine → ListingLine → ListingLine
by_word w a b = cond (eqb (length w.bytes) 0) a b

-- the instruction, if no word follows it
abbrev pub line_ended_by : ℕ → ℕ → ℕ → Word → ListingLine
line_ended_by op count v w = by_word w (instruction op count v) (wrong Trailing w.column)

unfoldable pub line_ended : ℕ → ℕ → ℕ → ℕ → List ℕ → ListingLine
line_ended op count v p l = line_ended_by op count v (first_word p l)

-- an operand must fit into the operand bytes
abbrev pub operand_number : ℕ → ℕ → Word → Result ℕ NumberError → ListingLine
operand_number op count w (Ok v) = cond (ltb v (256 ^ count)) (line_ended op count v (behind w) w.rest) (wrong TooLarge w.column)
operand_number op count w (Err Large) = wrong TooLarge w.column
operand_number op count w (Err Not) = wrong NotNumber w.column

abbrev pub operand_by : ℕ → ℕ → Word → ListingLine
operand_by op count w = by_word w (wrong NoOperand w.column) (operand_number op count w (signed_number w.bytes))

-- the line from the operand on: the text l from column p on
unfoldable pub from_operand : ℕ → ℕ → ℕ → List ℕ → ListingLine
from_operand op count p l = operand_by op count (first_word p l)

-- a name of an opcode that is not supported is as unknown as one of none
abbrev pub by_opcode : ℕ → Word → ListingLine
by_opcode op w =
    cond (leb (kind (class_of op)) kind_unsupported) (wrong UnknownName w.column)
    (cond (eqb (operands_of op) 0) (line_ended op 0 0 (behind w) w.rest) (from_operand op (operands_of op) (behind w) w.rest))

abbrev pub name_by : Word → ListingLine
name_by w = by_word w (wrong NoName w.column) (by_opcode (opcode_of w.bytes) w)

-- the line from the name on
unfoldable pub from_name : ℕ → List ℕ → ListingLine
from_name p l = name_by (first_word p l)

-- an offset must be that of the instruction
abbrev pub by_offset : ℕ → Word → Result ℕ NumberError → ListingLine
by_offset at w (Ok v) = cond (eqb v at) (from_name (behind w) w.rest) (wrong WrongOffset w.column)
by_offset at w (Err e) = wrong WrongOffset w.column

abbrev pub line_by : ℕ → List ℕ → Word → ListingLine
line_by at line w =
    by_word w nothing (cond (is_digit 10 (get_or w.bytes 0 0)) (by_offset at w (number_in 10 w.bytes)) (from_name 0 line))

-- what the line of the instruction at offset `at` says
unfoldable pub read_line : ℕ → List ℕ → ListingLine
read_line at line = line_by at line (first_word 0 line)

-- ---- the bytes that a line stands for
abbrev pub line_bytes : ListingLine → List ℕ
line_bytes (Ok None) = []
line_bytes (Ok (Some i)) = i.opcode ∷ big_bytes i.count i.operand
line_bytes (Err f) = []

-- ---- `read_instruction`: its answer, and the buffer o that it leaves
abbrev pub read_answer : ListingLine → ℕ → List ℕ → Result ℕ Unread
read_answer (Ok None) at o = Ok 0
read_answer (Ok (Some i)) at o = cond (ltb (at + i.count) (length o)) (Ok (i.count + 1)) (Err NoRoom)
read_answer (Err f) at o = Err (Wrong f)

abbrev pub left_by_of : Result ℕ Unread → ListingLine → ℕ → List ℕ → List ℕ
left_by_of (Ok n) l at o = written_at o at (line_bytes l)
left_by_of (Err u) l at o = o

abbrev pub read_left : ListingLine → ℕ → List ℕ → List ℕ
read_left l at o = left_by_of (read_answer l at o) l at o

-- the same of a text that ends at `at`: whether the line is read, and where the text ends then
abbrev pub taken : Result ℕ Unread → Result (Unit {0}) Unread
taken (Ok n) = Ok tt
taken (Err u) = Err u

abbrev pub end_by : ℕ → Result ℕ Unread → ℕ
end_by at (Ok n) = at + n
end_by at (Err u) = at

abbrev pub read_end : ListingLine → ℕ → List ℕ → ℕ
read_end l at o = end_by at (read_answer l at o)
