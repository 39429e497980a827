use Rattle.std.proofs.Common.{refl, ◌∙◌, rules}
use Rattle.machine.specs.Words.{binary_word}
use Rattle.operations.proofs.Cases.{binary_at, binary_else, divisor_positive}
use Rattle.operations.proofs.binary_word.Goals as goal

pub div_signed-requires : goal.div_signed-requires
div_signed-requires c = divisor_positive 5 _ _ c.in-5.is refl c.requires

pub div_unsigned-requires : goal.div_unsigned-requires
div_unsigned-requires c = divisor_positive 6 _ _ c.in-6.is refl c.requires

pub rem_signed-requires : goal.rem_signed-requires
rem_signed-requires c = divisor_positive 7 _ _ c.in-7.is refl c.requires

pub rem_unsigned-requires : goal.rem_unsigned-requires
rem_unsigned-requires c = divisor_positive 8 _ _ c.in-8.is refl c.requires

pub returns-in-2 : goal.returns-in-2
unfolding binary_word
returns-in-2 c = c.add.ensures ∙ binary_at 2 _ _ _ c.in-2.is

pub returns-in-3 : goal.returns-in-3
unfolding binary_word
returns-in-3 c = c.sub.ensures ∙ binary_at 3 _ _ _ c.in-3.is

pub returns-in-4 : goal.returns-in-4
unfolding binary_word
returns-in-4 c = c.mul.ensures ∙ binary_at 4 _ _ _ c.in-4.is

pub returns-in-5 : goal.returns-in-5
unfolding binary_word
returns-in-5 c = c.div_signed.ensures ∙ binary_at 5 _ _ _ c.in-5.is

pub returns-in-6 : goal.returns-in-6
unfolding binary_word
returns-in-6 c = c.div_unsigned.ensures ∙ binary_at 6 _ _ _ c.in-6.is

pub returns-in-7 : goal.returns-in-7
unfolding binary_word
returns-in-7 c = c.rem_signed.ensures ∙ binary_at 7 _ _ _ c.in-7.is

pub returns-in-8 : goal.returns-in-8
unfolding binary_word
returns-in-8 c = c.rem_unsigned.ensures ∙ binary_at 8 _ _ _ c.in-8.is

pub returns-in-9 : goal.returns-in-9
unfolding binary_word
returns-in-9 c = c.lsh.ensures ∙ binary_at 9 _ _ _ c.in-9.is

pub returns-in-10 : goal.returns-in-10
unfolding binary_word
returns-in-10 c = c.rsh_signed.ensures ∙ binary_at 10 _ _ _ c.in-10.is

pub returns-in-11 : goal.returns-in-11
unfolding binary_word
returns-in-11 c = c.rsh_unsigned.ensures ∙ binary_at 11 _ _ _ c.in-11.is

pub returns-in-15 : goal.returns-in-15
unfolding binary_word
returns-in-15 c = c.bit_and.ensures ∙ binary_at 15 _ _ _ c.in-15.is

pub returns-in-16 : goal.returns-in-16
unfolding binary_word
returns-in-16 c = c.bit_or.ensures ∙ binary_at 16 _ _ _ c.in-16.is

pub returns-in-17 : goal.returns-in-17
unfolding binary_word
returns-in-17 c = c.bit_xor.ensures ∙ binary_at 17 _ _ _ c.in-17.is

pub returns-in-19 : goal.returns-in-19
unfolding binary_word
returns-in-19 c = c.equal.ensures ∙ binary_at 19 _ _ _ c.in-19.is

pub returns-in-20 : goal.returns-in-20
unfolding binary_word
returns-in-20 c = c.less_signed.ensures ∙ binary_at 20 _ _ _ c.in-20.is

pub returns-in_default : goal.returns-in_default
returns-in_default c = c.less_unsigned.ensures ∙ binary_else _ _ _ (search rules)
