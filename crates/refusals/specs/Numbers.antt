-- Document 01's table of refusals: a name for each number, with the words of the table.
use Rattle.std.specs.Prelude.{ℕ, Result, Ok, Err}
use Rattle.refusals.specs.declared.Reason.{Reason}
use Rattle.refusals.specs.declared.Reason.TheVariants.{ExpressionSize, OpcodeUnknown, OpcodeUnsupported, OperandsCut, OperandBad, JumpNoStart, JumpNotForward, HeightsDiffer, CellsTooFew, CellsTooMany, RunsOff, SpanPastEnd, SpansShare, RegistersMany, BufferBad, AllowanceSpent, DivisorZero, RegisterNotLent, RangeNotReadable, RecordSize, BufferFull, TrailerBroken, RecordBroken, NoSuchFrame, NoSuchRecord}

-- "0 bytes, or more than 1,024"
abbrev pub expression_size : ℕ
expression_size = 1

-- "opcode unknown; unsupported"
abbrev pub opcode_unknown : ℕ
opcode_unknown = 2

abbrev pub opcode_unsupported : ℕ
opcode_unsupported = 3

-- "operands cut short; ext 0 or variable above 63"
abbrev pub operands_cut : ℕ
operands_cut = 4

abbrev pub operand_bad : ℕ
operand_bad = 5

-- "jump not to a start; jump not forward"
abbrev pub jump_no_start : ℕ
jump_no_start = 6

abbrev pub jump_not_forward : ℕ
jump_not_forward = 7

-- "heights differ; too few cells; too many; runs off"
abbrev pub heights_differ : ℕ
heights_differ = 8

abbrev pub cells_too_few : ℕ
cells_too_few = 9

abbrev pub cells_too_many : ℕ
cells_too_many = 10

abbrev pub runs_off : ℕ
runs_off = 11

-- "first address + length exceeds 2^64; spans share an address"
abbrev pub span_past_end : ℕ
span_past_end = 12

abbrev pub spans_share : ℕ
spans_share = 13

-- "over 256 registers; buffer over 65,536 or used beyond its length"
abbrev pub registers_many : ℕ
registers_many = 14

abbrev pub buffer_bad : ℕ
buffer_bad = 15

-- "allowance spent"
abbrev pub allowance_spent : ℕ
allowance_spent = 16

-- "divisor zero; register number not lent"
abbrev pub divisor_zero : ℕ
divisor_zero = 17

abbrev pub register_not_lent : ℕ
register_not_lent = 18

-- "range not readable"
abbrev pub range_not_readable : ℕ
range_not_readable = 19

-- "record size above 65,535"
abbrev pub record_size : ℕ
record_size = 20

-- "record, or trailer at end, longer than the free bytes"
abbrev pub buffer_full : ℕ
buffer_full = 21

-- "reader: trailer broken; record broken"
abbrev pub trailer_broken : ℕ
trailer_broken = 22

abbrev pub record_broken : ℕ
record_broken = 23

-- "no such frame; no such record"
abbrev pub no_such_frame : ℕ
no_such_frame = 24

abbrev pub no_such_record : ℕ
no_such_record = 25

-- the number of a row of the table
abbrev pub number_of : Reason → ℕ
number_of ExpressionSize = expression_size
number_of OpcodeUnknown = opcode_unknown
number_of OpcodeUnsupported = opcode_unsupported
number_of OperandsCut = operands_cut
number_of OperandBad = operand_bad
number_of JumpNoStart = jump_no_start
number_of JumpNotForward = jump_not_forward
number_of HeightsDiffer = heights_differ
number_of CellsTooFew = cells_too_few
number_of CellsTooMany = cells_too_many
number_of RunsOff = runs_off
number_of SpanPastEnd = span_past_end
number_of SpansShare = spans_share
number_of RegistersMany = registers_many
number_of BufferBad = buffer_bad
number_of AllowanceSpent = allowance_spent
number_of DivisorZero = divisor_zero
number_of RegisterNotLent = register_not_lent
number_of RangeNotReadable = range_not_readable
number_of RecordSize = record_size
number_of BufferFull = buffer_full
number_of TrailerBroken = trailer_broken
number_of RecordBroken = record_broken
number_of NoSuchFrame = no_such_frame
number_of NoSuchRecord = no_such_record

-- the number of the refusal, or 0 where there is none
abbrev pub number_or_0 : {A : Type 0} → Result A Reason → ℕ
number_or_0 (Ok x) = 0
number_or_0 (Err r) = number_of r
