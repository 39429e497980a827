-- The text of an instruction, as GDB's `maint agent` prints it: `  0  const8 5`.
use Rattle.std.specs.Prelude.{ℕ, ◌-◌, Bool, cond, ◌&&◌, List, [], ◌∷◌, ◌++◌, ltb, leb, eqb, length, get_or, replicate, Result, Ok, Err}
use Rattle.encoding.specs.Written.{written_at}
use Rattle.isa.specs.Classes.{kind_unsupported}
use Rattle.isa.specs.Decode.{kind_at, operand_bytes, operand, next}
use Rattle.instruction_text.specs.Names.{name_of}
use Rattle.text_buffer.specs.Decimal.{decimal}
use Rattle.phrases.specs.Numbers.{signed_text}
use Rattle.instruction_text.specs.declared.writing.Unwritten.{Unwritten}
use Rattle.instruction_text.specs.declared.writing.Unwritten.TheVariants.{NoInstruction, NoRoom}

-- in three columns, or as many as it needs
unfoldable pub aligned : List ℕ → List ℕ
aligned l = replicate (3 - length l) 32 ++ l

-- an instruction without operand bytes has no operand
unfoldable pub operand_text : ℕ → ℕ → List ℕ
operand_text count v = cond (eqb count 0) [] (32 ∷ signed_text v)

unfoldable pub text_of : ℕ → ℕ → ℕ → ℕ → List ℕ
text_of at op count v = aligned (decimal at) ++ ((32 ∷ 32 ∷ []) ++ (name_of op ++ (operand_text count v ++ (10 ∷ []))))

unfoldable pub text_at : List ℕ → ℕ → List ℕ
text_at e k = text_of k (get_or e k 0) (operand_bytes e k) (operand e k)

-- the same without the offset: `const8 5`
unfoldable pub named_at : List ℕ → ℕ → List ℕ
named_at e k = name_of (get_or e k 0) ++ operand_text (operand_bytes e k) (operand e k)

-- a supported instruction starts at k, and its operand bytes are there
unfoldable pub is_instruction : List ℕ → ℕ → Bool
is_instruction e k = ltb k (length e) && ltb kind_unsupported (kind_at e k) && leb (next e k) (length e)

-- for any offset: nothing where no instruction starts
unfoldable pub plain_at : List ℕ → ℕ → List ℕ
plain_at e k = cond (is_instruction e k) (named_at e k) []

-- ---- `write_instruction`: its answer, and the buffer o that it leaves
unfoldable pub written_answer : List ℕ → ℕ → List ℕ → Result ℕ Unwritten
written_answer e k o = cond (is_instruction e k) (cond (leb (length (text_at e k)) (length o)) (Ok (length (text_at e k))) (Err NoRoom)) (Err NoInstruction)

abbrev pub written_by : Result ℕ Unwritten → List ℕ → ℕ → List ℕ → List ℕ
written_by (Ok n) e k o = written_at o 0 (text_at e k)
written_by (Err u) e k o = o

unfoldable pub written_left : List ℕ → ℕ → List ℕ → List ℕ
written_left e k o = written_by (written_answer e k o) e k o
