-- The pass that accepts or is in doubt: straight code up to the first jump. That passes 1 and 2 hold is known only when
-- the last start is seen: so all of pass 3 is said under the condition that they do.
use Rattle.std.specs.Prelude.{Bool, true, false, List, ◌≡◌, ◌≢◌, ℕ, ◌+◌, ◌≤◌, ◌<◌, length}
use Rattle.sizes.specs.Sizes.{expression_most, stack_cells}
use Rattle.isa.specs.Classes.{setv}
use Rattle.isa.specs.Decode.{class_at}
use Rattle.isa.specs.Starts.{starts, starts_from, is_start}
use Rattle.verdict.specs.Fault.{first}
use Rattle.verdict.specs.Pass1.{fault1, pass1, Decodes}
use Rattle.verdict.specs.Pass2.{fault2, pass2, Aims}
use Rattle.verdict.specs.Verdict.{accepted, verdict, SetsNothing}
use Rattle.passes.specs.Joining.Tables.{Unmeasured, Measuring}
use Rattle.acceptor.specs.declared.Acceptance.{Acceptance}
use Rattle.acceptor.specs.declared.Stop.{Stop}
use Rattle.acceptor.specs.declared.straight.Straight.{Straight}
use Rattle.acceptor.specs.declared.straight.Straight.TheVariants.{Accepted, Branches}

-- what the pass answers where it is not in doubt: the verdict
pub record Accepts (e : List ℕ) (r : Acceptance) : Type 0 where
  pub accepts : accepted r.answer.count r.answer.greatest r.answer.longest ≡ verdict e
  pub quiet : r.sets ≡ false → SetsNothing e

-- where x is false, no instruction before k is a setv
abbrev pub SetsNothingBefore : List ℕ → ℕ → Bool → Type 0
SetsNothingBefore e k x = x ≡ false → (j : ℕ) → j < k → is_start e j ≡ true → class_at e j ≢ setv

-- the pass stands at a start after s.count instructions, all of them reached and none a jump
pub record Following (e : List ℕ) (s : Stop) : Type 0 where
  pub short : length e ≤ expression_most
  pub inside : s.at < length e
  pub start : is_start e s.at ≡ true
  pub few : s.count ≤ s.at
  pub low : s.height ≤ s.at
  pub same1 : first (fault1 e) (starts_from e s.at) ≡ pass1 e
  pub same2 : first (fault2 e) (starts_from e s.at) ≡ pass2 e
  pub count : s.count + length (starts_from e s.at) ≡ length (starts e)
  pub highest : s.height ≤ s.greatest
  pub measuring : (hs ds : List ℕ) → Unmeasured e hs ds → s.greatest ≤ stack_cells → Decodes e → Aims e → Measuring e s.at hs ds s.height s.count s.greatest 0
  pub quiet : SetsNothingBefore e s.at s.sets

-- how straight code ends
abbrev pub EndsStraight : List ℕ → Straight → Type 0
EndsStraight e (Accepted a) = Accepts e a
EndsStraight e (Branches s) = Following e s
