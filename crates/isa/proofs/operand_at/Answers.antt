use native.Mathlib.Omega.{arith}
use mathlib.Core.Path.{ap, ◌∙◌}
use Prim.Native.Nat.{◌+◌}
use lib.ListN.{get_or}
use Rattle.encoding.specs.BigEndian.{big_endian}
use Rattle.isa.specs.Decode.{operand}
use Rattle.isa.proofs.Table.{operands_most}
use Rattle.isa.proofs.operand_at.Goals as goal

pub big_endian-requires : goal.big_endian-requires
big_endian-requires c = let a = c.args in record { count = omega (arith, operands_most (get_or a.e.now a.at 0)); within = omega arith }

pub returns : goal.returns
unfolding operand
returns c = let a = c.args in (c.big_endian.ensures.0 ∙ ap (big_endian a.e.now (a.at + 1)) c.requires.count, c.big_endian.ensures.1)
