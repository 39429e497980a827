use mathlib.Core.Path.{ap, sym, ◌∙◌}
use Rattle.reader.specs.Located.{refused}
use Rattle.reader.proofs.Locating.{walked_unfit, walked_fit}
use Rattle.reader.proofs.walk.Goals as goal

pub returns-then-is_unfit : goal.returns-then-is_unfit
returns-then-is_unfit c =
    let a = c.args in
    ap refused c.at.ensures ∙ walked_unfit a.buffer.now a.place (sym c.is_unfit.ensures ∙ c.if-is_unfit.true)

pub returns : goal.returns
returns c = let a = c.args in c.frame_before.ensures ∙ walked_fit a.buffer.now a.place (sym c.is_unfit.ensures ∙ c.if-is_unfit.false)
