use Rattle.std.proofs.Common.{rules}
use mathlib.Core.Path.{sym, ◌∙◌}
use Rattle.isa.specs.declared.Kind.TheVariants.{Unknown}
use Rattle.isa.proofs.Promises.{kind_same, kind_other}
use Rattle.text_buffer.proofs.Promises.{appends_same, one, more}
use Rattle.text_buffer.specs.Text.{bytes_of}
use Rattle.hexadecimal.specs.Hex.{pair_of}
use Rattle.instruction_text.specs.Names.{name_of}
use Rattle.verify_lines.proofs.Answering.{opcode_unknown, opcode_known}
use Rattle.verify_lines.proofs.verdict_line.append_opcode.Goals as goal

pub returns-then-eq : goal.returns-then-eq
returns-then-eq c =
    let a = c.args in
    record {
      count = c.append-then-eq.ensures.count;
      text = appends_same _ _ (opcode_unknown a.opcode (sym c.look_up.ensures.kind_is ∙ kind_same c.look_up.result.kind Unknown c.if-eq.ensures))
          (more (more (one (bytes_of " (opcode ") c.append.ensures.text) (pair_of a.opcode) c.append_byte.ensures.text) (bytes_of ")")
          c.append-then-eq.ensures.text).text;
      lent = search rules;
    }

pub returns : goal.returns
returns c =
    let a = c.args in
    record {
      count = c.append-3.ensures.count;
      text = appends_same _ _ (opcode_known a.opcode (λ q. kind_other c.look_up.result.kind Unknown c.if-eq.ensures (c.look_up.ensures.kind_is ∙ q)))
          (more (more (one (bytes_of " (") c.append-2.ensures.text) (name_of a.opcode) c.append_name.ensures.text) (bytes_of ")")
          c.append-3.ensures.text).text;
      lent = search rules;
    }
