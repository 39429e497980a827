-- The loop's invariant: `value` is the value of the digits so far.
use Rattle.line_words.specs.Numbers.{base_of}
use Rattle.line_words.proofs.Numbering.{Valuing}
use Rattle.line_words.proofs.numbers.value.Given as goal

abbrev pub invariant-loop-c : goal.invariant-loop-c
invariant-loop-c l = Valuing (base_of l.base) l.word l.value l.c-index
