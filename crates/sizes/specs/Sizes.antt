-- Document 01, "Sizes".
use Rattle.std.specs.Prelude.{ℕ}

-- "An expression has 1 to 1,024 bytes."
abbrev pub expression_most : ℕ
expression_most = 1024

-- "The stack has 64 cells of 64 bits, the same number in verifier and runner."
abbrev pub stack_cells : ℕ
stack_cells = 64

-- "There are 64 trace state variables, 0 to 63."
abbrev pub variable_count : ℕ
variable_count = 64

-- "Registers: 0 to 256 lent numbers."
abbrev pub registers_most : ℕ
registers_most = 256

-- "Trace buffer: 0 to 65,536 lent bytes"
abbrev pub buffer_most : ℕ
buffer_most = 65536

-- "Tracepoint numbers: 0 to 65,535."
abbrev pub tracepoint_most : ℕ
tracepoint_most = 65535

-- "record size above 65,535" is refused ("Running", 20)
abbrev pub record_most : ℕ
record_most = 65535
