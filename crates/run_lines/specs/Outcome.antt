-- What came of a run, in lines.
use Rattle.std.specs.Prelude.{ℕ, ◌^◌, ◌<◌, Bool, true, false, cond, List, [], ◌++◌, leb, ltb, eqb, length}
use Rattle.text_buffer.specs.Text.{bytes_of}
use Rattle.phrases.specs.Refused.{refusal_of, refused_at}
use Rattle.text_buffer.specs.Decimal.{decimal}
use Rattle.instruction_text.specs.Text.{is_instruction, plain_at}
use Rattle.refusals.specs.Refusal.{Refusal}
use Rattle.refusals.specs.Numbers.{expression_size, span_past_end, buffer_bad}
use Rattle.machine.specs.Machine.{Answer, no_value, top, top_and_beneath}
use Rattle.runner.specs.Returned.{Returned, completed_with, refused_with}
use Rattle.phrases.specs.Numbers.{count_text, value_text}

unfoldable pub steps_text : ℕ → List ℕ
steps_text n = bytes_of " after " ++ count_text n (bytes_of "step") ++ bytes_of ": "

-- the answer; s stands between the top and the cell beneath
unfoldable pub cells_text : Answer → List ℕ → List ℕ
cells_text no_value s = bytes_of "no value"
cells_text (top x) s = bytes_of "top " ++ value_text x
cells_text (top_and_beneath x y) s = bytes_of "top " ++ value_text x ++ s ++ value_text y

-- `completed after N steps: ANSWER`
unfoldable pub completed_by : List ℕ → Answer → ℕ → List ℕ
completed_by s a n = bytes_of "completed" ++ steps_text n ++ cells_text a s ++ bytes_of "\n"

-- a line has at most 100 columns, and a line feed
unfoldable pub fits_line : List ℕ → Bool
fits_line l = leb (length l) 101

unfoldable pub is_narrow : Answer → ℕ → Bool
is_narrow a n = fits_line (completed_by (bytes_of ", beneath ") a n)

-- in one line where it is narrow; else the cell beneath stands in a line of its own
unfoldable pub completed_text : Answer → ℕ → List ℕ
completed_text a n = cond (is_narrow a n) (completed_by (bytes_of ", beneath ") a n) (completed_by (bytes_of ",\n  beneath ") a n)

-- 1 is of the expression as a whole, 12 to 15 of spans, registers and buffer; every other refusal is of an instruction
unfoldable pub is_of_instruction : ℕ → Bool
is_of_instruction r = cond (eqb r expression_size) false (cond (ltb r span_past_end) true (ltb buffer_bad r))

-- the instruction that is refused, in a line of its own, where a whole one stands there
unfoldable pub instruction_line : List ℕ → Refusal → List ℕ
instruction_line e r =
    cond (is_of_instruction r.number)
    (cond (is_instruction e r.offset) (bytes_of "  instruction: " ++ plain_at e r.offset ++ bytes_of "\n") [])
    []

-- `refused N at offset K after S steps: WORDS`, and the instruction
unfoldable pub refused_text : List ℕ → Refusal → List ℕ
refused_text e r =
    refused_at r.number r.offset ++ steps_text r.steps ++ bytes_of (refusal_of r.number) ++ bytes_of "\n" ++ instruction_line e r

-- the lines for what a run of the expression e returns
unfoldable pub outcome_text : List ℕ → Returned → List ℕ
outcome_text e (completed_with a n u) = completed_text a n
outcome_text e (refused_with r) = refused_text e r

-- a variable's value before a run and after it; s stands between them
unfoldable pub change_by : List ℕ → ℕ → ℕ → ℕ → List ℕ
change_by s j before after = bytes_of "  variable " ++ decimal j ++ bytes_of ": " ++ value_text before ++ s ++ value_text after ++ bytes_of "\n"

-- `  variable 3: 0 (0x0) -> 42 (0x2a)`; where that is too wide, the value after stands in a line of its own
unfoldable pub change_text : ℕ → ℕ → ℕ → List ℕ
change_text j before after =
    cond (fits_line (change_by (bytes_of " -> ") j before after)) (change_by (bytes_of " -> ") j before after) (change_by (bytes_of "\n    -> ") j before after)

-- `buffer: 21 of 65536 bytes used`
unfoldable pub buffer_text : ℕ → ℕ → List ℕ
buffer_text u n = bytes_of "buffer: " ++ decimal u ++ bytes_of " of " ++ count_text n (bytes_of "byte") ++ bytes_of " used\n"

-- the cells of an answer are words of 64 bits
abbrev pub IsWords : Answer → Type 0
IsWords no_value = Unit {0}
IsWords (top x) = x < 2 ^ 64
IsWords (top_and_beneath x y) = (x < 2 ^ 64) × (y < 2 ^ 64)
