use mathlib.Core.Path.{ap, sym, ◌∙◌}
use native.Mathlib.Omega.{arith}
use Rattle.std.proofs.lemmas.Bool.Decides.{nat_tests}
use lib.ListN.{get_or-eq_default}
use Rattle.frames.specs.Joining.Answers.{size_of}
use Rattle.frames.proofs.Reading.{memory_mark, variable_mark, other_mark}
use Rattle.frames.proofs.record_size.Goals as goal

pub returns-then-is_empty : goal.returns-then-is_empty
returns-then-is_empty c = let d = get_or-eq_default c.args.bytes.now 0 {n = 0} (grind (arith, nat_tests)) in other_mark _ (λ e. omega arith) (λ e. omega arith)

pub returns-in-86 : goal.returns-in-86
returns-in-86 c = c.variable_size.ensures ∙ sym (ap size_of (variable_mark _ (omega arith)))

pub returns-in-77 : goal.returns-in-77
returns-in-77 c = c.memory_size.ensures ∙ sym (ap size_of (memory_mark _ (omega arith)))

pub returns-in_default : goal.returns-in_default
returns-in_default c = other_mark _ (λ e. omega arith) (λ e. omega arith)
