use mathlib.Core.Path.{refl, ◌∙◌}
use native.Mathlib.Omega.{arith}
use Rattle.operations.proofs.Cases.{ref_left, ref_refused}
use Rattle.operations.proofs.Doing.{did_word, did_refused}
use Rattle.operations.proofs.do_ref.Goals as goal

pub returns-then-rest-count : goal.returns-then-rest-count
returns-then-rest-count c =
    did_refused c.requires.here.lent.long (ref_refused _ _ _ c.args.fixed.memory.allowed c.requires.count.0 c.rest-rest.ensures c.below.ensures (omega arith)) refl

pub returns : goal.returns
returns c =
    did_word c.requires.here c.put_word.ensures refl refl
    (ref_left _ _ _ c.args.fixed.memory.allowed c.requires.count.0 c.rest-rest.ensures c.below.ensures (omega arith) ∙ cc)
