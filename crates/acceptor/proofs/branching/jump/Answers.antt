use mathlib.Core.Path.{refl, ap, sym, ◌∙◌}
use mir.Val.{bool_byte}
use native.Mathlib.Omega.{arith}
use borrow.Author.Tests.{eq-eqb, ne_eqb}
use Rattle.acceptor.proofs.AlongJumps.{jumped_by}
use Rattle.acceptor.proofs.branching.jump.Goals as goal

pub returns : goal.returns
returns g c =
    let w = c.at-is_new.ensures.0 in
    jumped_by c.args.needed c.operand_at-target.result c.requires.1 (omega arith) (omega arith) (omega arith) c.operand_at-target.ensures.0 (omega arith) (omega arith) refl
    (λ q. omega (arith, c.from.ensures ∙ ap bool_byte (eq-eqb c.at-is_new.result.height 255 (w ∙ q))))
    (λ q. omega (arith, c.from.ensures ∙ ap bool_byte (ne_eqb c.at-is_new.result.height 255 (λ z. q (sym w ∙ z)))))
    c.arrive.ensures.0 c.arrive.ensures.1
