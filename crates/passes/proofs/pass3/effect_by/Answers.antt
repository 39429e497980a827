use native.Mathlib.Omega.{arith}
use Prim.Native.Nat.{max}
use mathlib.Core.Path.{refl, ap, sym, ◌∙◌}
use Rattle.verdict.proofs.Deciding.{fault_few, fault_many, fault_none, fault_off}
use Rattle.isa.proofs.Promises.{after_by}
use Rattle.passes.proofs.pass3.effect_by.Goals as goal

pub returns-then-not-has : goal.returns-then-not-has
returns-then-not-has c =
    λ e k n l o.
    let f = c.has.ensures.no c.if-not-has.true in
    record { number = fault_few e k c.args.carry.height c.requires.1 (omega arith); onward = λ z. absurd (omega (arith, z)) }

pub returns-then-not-fits : goal.returns-then-not-fits
returns-then-not-fits c =
    λ e k n l o.
    let h = c.has.ensures.yes c.if-not-has.false in
    let f = c.fits.ensures.no c.if-not-fits.true in
    let x = c.args.carry in
    let a = after_by e k x.height c.args.needed c.args.left n l in
    record { number = fault_many e k x.height c.requires.1 (omega arith) (omega arith); onward = λ z. absurd (omega (arith, z)) }

pub returns-then-is_off : goal.returns-then-is_off
returns-then-is_off c =
    λ e k n l o.
    let h = c.has.ensures.yes c.if-not-has.false in
    let f = c.fits.ensures.yes c.if-not-fits.false in
    let x = c.args.carry in
    let a = after_by e k x.height c.args.needed c.args.left n l in
    record {
      number = fault_off e k x.height c.requires.1 (omega arith) (omega arith) (sym o ∙ c.if-is_off.true);
      onward = λ z. absurd (omega (arith, z));
    }

pub returns : goal.returns
returns c =
    λ e k n l o.
    let h = c.has.ensures.yes c.if-not-has.false in
    let f = c.fits.ensures.yes c.if-not-fits.false in
    let x = c.args.carry in
    let a = after_by e k x.height c.args.needed c.args.left n l in
    record {
      number = fault_none e k x.height c.requires.1 (omega arith) (omega arith) (sym o ∙ c.if-is_off.false);
      onward = λ _. record { height_is = a; distance_is = refl; greatest_is = c.max.ensures ∙ ap (max x.greatest) a; longest_is = refl };
    }
