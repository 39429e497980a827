use mathlib.Core.Path.{refl, ap, ◌∙◌}
use native.Mathlib.Omega.{arith}
use Rattle.reader.specs.Located.{refused}
use Rattle.reader.proofs.Locating.{nothing_left, too_short, no_trailer, too_long, frame_there}
use Rattle.reader.proofs.frame_before.Goals as goal

pub returns-then-end-eq0 : goal.returns-then-end-eq0
returns-then-end-eq0 c = ap refused c.at.ensures ∙ nothing_left _ _ (omega arith)

pub returns-then-end-lt-TRAILER_SIZE : goal.returns-then-end-lt-TRAILER_SIZE
returns-then-end-lt-TRAILER_SIZE c = ap refused c.at-then-end-lt-TRAILER_SIZE.ensures ∙ too_short _ _ (omega arith) (omega arith)

pub returns-in_default : goal.returns-in_default
returns-in_default c = ap refused c.at-in_default.ensures ∙ no_trailer _ _ (omega arith) (omega arith) c.in_default.ensures refl

pub returns-then-closed-trailer : goal.returns-then-closed-trailer
returns-then-closed-trailer c =
    ap refused c.at-then-closed-trailer.ensures ∙ too_long _ _ (omega arith) (omega arith) c.in-Some.ensures refl (omega arith)

pub returns : goal.returns
returns c = frame_there _ _ (omega arith) (omega arith) c.in-Some.ensures refl (omega arith)
