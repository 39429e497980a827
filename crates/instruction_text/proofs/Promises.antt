-- What users of `instruction_text` may cite. The contracts of src/ are the rest.
use Prim.Native.Nat.{ℕ, ◌^◌, ◌≤◌, ◌<◌}
use mathlib.Core.Bool.{true}
use mathlib.Core.List.{List, [], ◌∷◌, ◌++◌}
use mathlib.Core.Path.{◌≡◌}
use lib.ListN.{length, get_or}
use Rattle.text_buffer.specs.Decimal.{decimal}
use Rattle.encoding.specs.Ranges.{AllBytes}
use Rattle.std.proofs.Common.{◌⊎◌}
use Rattle.isa.specs.Classes.{kind_unsupported}
use Rattle.isa.specs.Joining.Rows.{kind_of}
use Rattle.isa.specs.declared.Kind.{Kind}
use Rattle.isa.specs.declared.Kind.TheVariants.{Unknown, Unsupported}
use Rattle.isa.specs.Decode.{operand_bytes, operand}
use Rattle.phrases.specs.Numbers.{signed_text}
use Rattle.instruction_text.specs.Names.{name_of}
use Rattle.instruction_text.specs.Text.{aligned, operand_text, text_at, is_instruction, plain_at}
use Rattle.instruction_text.proofs.Opcodes as opcodes
use Rattle.instruction_text.proofs.Texting as texting
-- `Instructed e k`: a supported instruction starts at k, inside the bytes and whole. `row_text at op count v`: the text
-- of an instruction before its line feed.
pub use Rattle.instruction_text.proofs.Texting.{Instructed, row_text}

pub instructed : (e : List ℕ) (k : ℕ) → is_instruction e k ≡ true → Instructed e k
instructed = texting.instructed

-- it starts within the bytes
pub instruction_inside : (e : List ℕ) (k : ℕ) → is_instruction e k ≡ true → k < length e
instruction_inside e k i = (texting.instructed e k i).inside

-- ---- the parts of a text: an operand or none, the row before the line feed
pub operand_none : (count v : ℕ) → count ≡ 0 → [] ≡ operand_text count v
operand_none = texting.operand_none

pub operand_some : (count v : ℕ) → (count ≡ 0 → ⊥) → (32 ∷ []) ++ signed_text v ≡ operand_text count v
operand_some = texting.operand_some

pub row_parts : (at op count v : ℕ) (l : List ℕ)
    → row_text at op count v ++ l ≡ aligned (decimal at) ++ ((32 ∷ 32 ∷ []) ++ (name_of op ++ (operand_text count v ++ l)))
row_parts = texting.row_parts

pub text_parts : (e : List ℕ) (k : ℕ) → row_text k (get_or e k 0) (operand_bytes e k) (operand e k) ++ (10 ∷ []) ≡ text_at e k
text_parts = texting.text_parts

-- ---- the text of an instruction has less than 64 characters, without the offset too, and a name at most 15
pub text_some : (e : List ℕ) (k : ℕ) → 0 < length (text_at e k)
text_some = texting.text_some

pub text_length : (e : List ℕ) → AllBytes e → (k : ℕ) → k < 2 ^ 64 → length (text_at e k) < 64
text_length = texting.text_length

pub plain_length : (e : List ℕ) → AllBytes e → (k : ℕ) → k < 2 ^ 64 → length (plain_at e k) < 64
plain_length = texting.plain_length

pub name_length : (op : ℕ) → length (name_of op) ≤ 15
name_length = opcodes.name_length

-- ---- the kind of a row: not supported, or supported
pub kind_low : (k : Kind) → (k ≡ Unknown) ⊎ (k ≡ Unsupported) → kind_of k ≤ kind_unsupported
kind_low = texting.kind_low

pub kind_high : (k : Kind) → (k ≡ Unknown → ⊥) → (k ≡ Unsupported → ⊥) → kind_unsupported < kind_of k
kind_high = texting.kind_high
