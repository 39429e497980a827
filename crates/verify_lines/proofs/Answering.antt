-- The verdict by what is tested of it, for the proofs of the functions of `verdict_line`. Assumes nothing.
use Prim.Native.Nat.{ℕ, ◌≤◌, ◌<◌}
use mathlib.Core.Bool.{true, false}
use mathlib.Core.List.{List, [], ◌++◌}
use mathlib.Core.Path.{◌≡◌, refl}
use native.Mathlib.Omega.{arith}
use lib.ListN.{length, get_or}
use borrow.Author.Tests.{eq-eqb, ne_eqb, le-leb, lt-leb}
use Rattle.hexadecimal.specs.Hex.{pair_of}
use Rattle.text_buffer.specs.Text.{bytes_of}
use Rattle.refusals.specs.Refusal.{Refusal}
use Rattle.refusals.specs.Numbers.{expression_size, number_of}
use Rattle.refusals.specs.declared.Reason.{Reason}
use Rattle.refusals.specs.declared.Reason.TheVariants.{ExpressionSize}
use Rattle.isa.specs.Classes.{class_of, kind, kind_unknown}
use Rattle.instruction_text.specs.Names.{name_of}
use Rattle.text_buffer.specs.Decimal.{decimal}
use Rattle.instruction_text.specs.Text.{is_instruction, plain_at}
use Rattle.verdict.specs.Pass3.{unreached}
use Rattle.verify_lines.specs.Verdict.{opcode_text, there_text, instruction_of, height_text}

-- ---- an opcode
module _ (op : ℕ) where
  pub opcode_unknown : kind (class_of op) ≡ kind_unknown → bytes_of " (opcode " ++ pair_of op ++ bytes_of ")" ≡ opcode_text op
  unfolding opcode_text
  opcode_unknown q = rw (eq-eqb (kind (class_of op)) kind_unknown q)

  pub opcode_known : (kind (class_of op) ≡ kind_unknown → ⊥) → bytes_of " (" ++ name_of op ++ bytes_of ")" ≡ opcode_text op
  unfolding opcode_text
  opcode_known q = rw (ne_eqb (kind (class_of op)) kind_unknown q)

-- ---- what stands at an offset
module _ (e : List ℕ) (k : ℕ) where
  pub there_none : length e ≤ k → [] ≡ there_text e k
  unfolding there_text
  there_none h = rw (le-leb (length e) k h)

  pub there_opcode : k < length e → is_instruction e k ≡ false → opcode_text (get_or e k 0) ≡ there_text e k
  unfolding there_text
  there_opcode h q = rw (lt-leb (length e) k h, q)

  pub there_instruction : k < length e → is_instruction e k ≡ true → bytes_of " (" ++ plain_at e k ++ bytes_of ")" ≡ there_text e k
  unfolding there_text
  there_instruction h q = rw (lt-leb (length e) k h, q)

pub size_reason : (r : Reason) → number_of r ≡ expression_size → r ≡ ExpressionSize
size_reason ExpressionSize p = refl
size_reason r p = absurd (omega arith)

module _ (e : List ℕ) (r : Refusal) where
  pub of_none : r.number ≡ expression_size → [] ≡ instruction_of e r
  unfolding instruction_of
  of_none h = rw (eq-eqb r.number expression_size h)

  pub of_some : (r.number ≡ expression_size → ⊥) → there_text e r.offset ≡ instruction_of e r
  unfolding instruction_of
  of_some h = rw (ne_eqb r.number expression_size h)

-- ---- a height
pub height_none : (h : ℕ) → h ≡ unreached → bytes_of "# not reached\n" ≡ height_text h
unfolding height_text
height_none h q = rw (eq-eqb h unreached q)

pub height_some : (h : ℕ) → (h ≡ unreached → ⊥) → bytes_of "# height " ++ decimal h ++ bytes_of "\n" ≡ height_text h
unfolding height_text
height_some h q = rw (ne_eqb h unreached q)
