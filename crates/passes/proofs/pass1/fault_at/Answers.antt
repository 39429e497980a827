use native.Mathlib.Omega.{arith}
use mathlib.Core.Path.{ap, sym, ◌∙◌}
use mathlib.Core.Logic.{◌≢◌}
use Rattle.isa.specs.Classes.{kind_unknown, kind_unsupported}
use Rattle.isa.specs.declared.Kind.TheVariants.{Unknown, Unsupported, Ext, Variable}
use Rattle.isa.specs.Joining.Rows.{kind_of}
use Rattle.isa.proofs.Promises.{one_kind}
use Rattle.verdict.proofs.Deciding.{f_ext_some, f_ext_zero, f_plain, f_unknown, f_unsupported, f_variable_high, f_variable_low}
use Rattle.passes.proofs.pass1.fault_at.Goals as goal

pub returns-in-Unknown : goal.returns-in-Unknown
returns-in-Unknown c = f_unknown _ _ (sym c.requires.kind ∙ ap kind_of c.in-Unknown.is)

pub returns-in-Unsupported : goal.returns-in-Unsupported
returns-in-Unsupported c = f_unsupported _ _ (sym c.requires.kind ∙ ap kind_of c.in-Unsupported.is)

pub returns-then-operand_at-eq0 : goal.returns-then-operand_at-eq0
returns-then-operand_at-eq0 c = let k = ap kind_of c.in-Ext.is in f_ext_zero _ _ (omega arith) (omega arith) (omega arith)

pub returns-else-operand_at-eq0 : goal.returns-else-operand_at-eq0
returns-else-operand_at-eq0 c = let k = ap kind_of c.in-Ext.is in f_ext_some _ _ (omega arith) (omega arith) (omega arith)

pub returns-then-operand_at : goal.returns-then-operand_at
returns-then-operand_at c = let k = ap kind_of c.in-Variable.is in f_variable_high _ _ (omega arith) (omega arith) (omega arith)

pub returns-else-operand_at : goal.returns-else-operand_at
returns-else-operand_at c = let k = ap kind_of c.in-Variable.is in f_variable_low _ _ (omega arith) (omega arith) (omega arith)

pub returns-in_default : goal.returns-in_default
returns-in_default c =
    let a = c.args in let d = c.in_default in let p = c.requires.kind in
    let unknown : kind_of a.kind ≢ kind_unknown = λ z. d.not-Unknown (one_kind a.kind Unknown z) in
    let unsupported : kind_of a.kind ≢ kind_unsupported = λ z. d.not-Unsupported (one_kind a.kind Unsupported z) in
    f_plain _ _ (omega arith) (omega (arith, unknown, unsupported, p))
    (λ z. d.not-Ext (one_kind a.kind Ext (p ∙ z))) (λ z. d.not-Variable (one_kind a.kind Variable (p ∙ z)))
