use native.Mathlib.Omega.{arith}
use mathlib.Core.Path.{◌≡◌, ap, sym, ◌∙◌}
use mathlib.Core.Bool.{true, false}
use Rattle.isa.specs.Classes.{kind_plain}
use Rattle.isa.specs.Decode.{is_jump, jumps, kind_at}
use Rattle.isa.specs.declared.Kind.TheVariants.{Plain}
use Rattle.isa.proofs.Promises.{kind_same}
use Rattle.verdict.proofs.Deciding.{f_plain, f_short}
use Rattle.passes.proofs.Scanning.{jumps_kind, notes_none}
use Rattle.passes.proofs.pass1.look.Goals as goal

pub returns-then-e-next : goal.returns-then-e-next
returns-then-e-next g c = f_short _ _ c.requires.start.0 (omega (arith, c.if-e-next.true, c.from.ensures, c.of-row.ensures.operands_is))

pub returns-then-eq : goal.returns-then-eq
returns-then-eq g c =
    let r = c.of-row.ensures in let m = c.mark_start.ensures in
    let p : kind_at c.args.e.now c.args.at ≡ kind_plain = sym r.kind_is ∙ kind_same c.of-row.result.kind Plain c.if-eq.ensures in (
      sym (f_plain _ _ (omega (arith, c.if-e-next.false, c.from.ensures, r.operands_is)) (omega (arith, p)) (omega (arith, p)) (omega (arith, p))),
      omega (arith, c.from.ensures, r.operands_is),
      m.0,
      notes_none _ _ _ _ (ap is_jump p) m.1 m.2,
    )

pub returns-then-is_jump : goal.returns-then-is_jump
returns-then-is_jump g c =
    let r = c.of-row.ensures in let m = c.mark.ensures in let e = c.args.e.now in let k = c.args.at in
    let j : jumps e k ≡ true = ap is_jump (sym r.kind_is) ∙ sym c.is_jump.ensures ∙ c.if-is_jump.true in
    let q = jumps_kind e k j in (
      sym (f_plain _ _ (omega (arith, c.if-e-next.false, c.from.ensures, r.operands_is)) (omega (arith, q)) (omega (arith, q)) (omega (arith, q))),
      omega (arith, c.from.ensures, r.operands_is),
      m.0,
      rw r.kind_is at m.1,
    )

pub returns : goal.returns
returns g c =
    let r = c.of-row.ensures in let m = c.mark_start-2.ensures in let e = c.args.e.now in let k = c.args.at in
    let j : jumps e k ≡ false = ap is_jump (sym r.kind_is) ∙ sym c.is_jump.ensures ∙ c.if-is_jump.false in (
      omega (arith, c.in_ok-fault_at.ensures),
      omega (arith, c.from.ensures, r.operands_is),
      m.0,
      notes_none _ _ _ _ j m.1 m.2,
    )
