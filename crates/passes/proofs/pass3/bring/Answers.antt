use native.Mathlib.Omega.{arith}
use mathlib.Core.Path.{◌≡◌, ap, sym, ◌∙◌}
use mathlib.Core.Bool.{true, false}
use borrow.Author.Rules.{rules}
use Rattle.isa.specs.Decode.{is_jump, jumps}
use Rattle.verdict.specs.Pass3.{arrive, raise}
use Rattle.passes.proofs.Scanning.{jumps_kind}
use Rattle.passes.proofs.Measuring.{passing_fits, passing_target, target_other, target_at}
use Rattle.passes.proofs.pass3.bring.Goals as goal

pub operand_at-target-requires-clause-within : goal.operand_at-target-requires-clause-within
operand_at-target-requires-clause-within g c = passing_fits c.requires.start.0

pub arrive-requires : goal.arrive-requires
arrive-requires g c =
    let a = c.args in let p = c.requires.start in
    let j : jumps a.e.now a.at ≡ true = ap is_jump (sym c.requires.kind) ∙ sym c.is_jump.ensures ∙ c.if-is_jump.true in
    let q = jumps_kind a.e.now a.at j in let t = passing_target p.0 q.0 q.1 in
    (search rules, (omega (arith, t, p.1, c.operand_at-target.ensures.0), p.2, p.3))

pub returns-then-is_jump : goal.returns-then-is_jump
returns-then-is_jump g c =
    let a = c.args in let o = c.operand_at-target.ensures.0 in
    let j : jumps a.e.now a.at ≡ true = ap is_jump (sym c.requires.kind) ∙ sym c.is_jump.ensures ∙ c.if-is_jump.true in (
      c.arrive.ensures.0 ∙ target_at a.e.now a.at (arrive a.after.height) a.brought.now.heights _ o j,
      c.arrive.ensures.1 ∙ target_at a.e.now a.at (raise a.after.distance) a.brought.now.distances _ o j,
    )

pub returns-else-is_jump : goal.returns-else-is_jump
returns-else-is_jump g c =
    let a = c.args in
    let j : jumps a.e.now a.at ≡ false = ap is_jump (sym c.requires.kind) ∙ sym c.is_jump.ensures ∙ c.if-is_jump.false in
    (target_other a.e.now a.at (arrive a.after.height) a.brought.now.heights j, target_other a.e.now a.at (raise a.after.distance) a.brought.now.distances j)
