use native.Mathlib.Omega.{arith}
use Rattle.machine.proofs.typed.Goals as goal

pub returns : goal.returns
returns c = λ buffer used allowance. record {
  expression = c.bytes_known.ensures;
  registers = c.words_known.ensures;
  variables = c.words_known-2.ensures;
  image = c.bytes_known-2.ensures;
  work = c.bytes_known-3.ensures;
  tracepoint = omega arith;
}
