-- The verdict on an expression, in a line, and the height beside an instruction of a listing.
use Rattle.std.specs.Prelude.{ℕ, cond, List, [], ◌++◌, leb, eqb, length, get_or}
use Rattle.text_buffer.specs.Text.{bytes_of}
use Rattle.hexadecimal.specs.Hex.{pair_of}
use Rattle.phrases.specs.Refused.{refusal_of, refused_at}
use Rattle.refusals.specs.Refusal.{Refusal}
use Rattle.refusals.specs.Numbers.{expression_size}
use Rattle.isa.specs.Classes.{class_of, kind, kind_unknown}
use Rattle.verdict.specs.Pass3.{unreached}
use Rattle.verdict.specs.Verdict.{Verdict, accepted, refused}
use Rattle.instruction_text.specs.Names.{name_of}
use Rattle.text_buffer.specs.Decimal.{decimal}
use Rattle.instruction_text.specs.Text.{is_instruction, plain_at}
use Rattle.phrases.specs.Numbers.{count_text}

-- `accepted: N instructions, greatest height G, longest walk L`
unfoldable pub accepted_text : ℕ → ℕ → ℕ → List ℕ
accepted_text n g l =
    bytes_of "accepted: " ++ count_text n (bytes_of "instruction") ++ bytes_of ", greatest height " ++ decimal g ++ bytes_of ", longest walk " ++ decimal l
    ++ bytes_of "\n"

-- an opcode by its name, or by its number where it is unknown
unfoldable pub opcode_text : ℕ → List ℕ
opcode_text op =
    cond (eqb (kind (class_of op)) kind_unknown) (bytes_of " (opcode " ++ pair_of op ++ bytes_of ")")
    (bytes_of " (" ++ name_of op ++ bytes_of ")")

-- what stands at offset k of the expression e: the instruction, or the opcode where no whole supported instruction does
unfoldable pub there_text : List ℕ → ℕ → List ℕ
there_text e k =
    cond (leb (length e) k) []
    (cond (is_instruction e k) (bytes_of " (" ++ plain_at e k ++ bytes_of ")") (opcode_text (get_or e k 0)))

-- refusal 1 is of the expression as a whole
unfoldable pub instruction_of : List ℕ → Refusal → List ℕ
instruction_of e r = cond (eqb r.number expression_size) [] (there_text e r.offset)

-- `refused N at offset K (INSTRUCTION): WORDS`
unfoldable pub refused_line : List ℕ → Refusal → List ℕ
refused_line e r = refused_at r.number r.offset ++ instruction_of e r ++ bytes_of ": " ++ bytes_of (refusal_of r.number) ++ bytes_of "\n"

-- the line for what the verifier answers on the expression e
unfoldable pub verdict_text : List ℕ → Verdict → List ℕ
verdict_text e (accepted n g l) = accepted_text n g l
verdict_text e (refused r) = refused_line e r

-- the cell of an offset, beside the instruction that starts there
unfoldable pub height_text : ℕ → List ℕ
height_text h = cond (eqb h unreached) (bytes_of "# not reached\n") (bytes_of "# height " ++ decimal h ++ bytes_of "\n")
