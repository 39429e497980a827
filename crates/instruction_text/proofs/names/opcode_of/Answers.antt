use Rattle.instruction_text.proofs.Opcodes.{place_some, place_none}
use Rattle.instruction_text.proofs.names.opcode_of.Goals as goal

pub returns-in_err-opcode-clause-opcode : goal.returns-in_err-opcode-clause-opcode
returns-in_err-opcode-clause-opcode c = rw c.from_residual.ensures (place_none c.names.result.now c.names.ensures _ _ c.place_of.ensures c.in_err-opcode.was)

pub returns-clause-opcode : goal.returns-clause-opcode
returns-clause-opcode c = place_some c.names.result.now c.names.ensures _ _ c.place_of.ensures _ c.in_ok-opcode.was
