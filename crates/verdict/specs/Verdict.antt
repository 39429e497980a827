-- The verifier's answer for any bytes: document 01, "Verifying". "Three passes, each in rising offset; the first fault
-- found is the answer."
use Rattle.std.specs.Prelude.{true, cond, ◌&&◌, List, ◌≢◌, ◌≡◌, ℕ, Result, Ok, Err, length, leb}
use Rattle.sizes.specs.Sizes.{expression_most}
use Rattle.refusals.specs.Numbers.{expression_size}
use Rattle.refusals.specs.Refusal.{Refusal, refusal, told}
use Rattle.isa.specs.Classes.{setv}
use Rattle.isa.specs.Decode.{class_at}
use Rattle.isa.specs.Starts.{starts, is_start}
use Rattle.isa.specs.Walk.{one}
use Rattle.verdict.specs.Fault.{Fault, none, fault}
use Rattle.verdict.specs.Pass1.{pass1}
use Rattle.verdict.specs.Pass2.{pass2}
use Rattle.verdict.specs.Pass3.{Pass3End, done, stopped, pass3}
use Rattle.refusals.specs.declared.Refusal as code_refusal
use Rattle.verdict.specs.declared.Accepted as code

-- "The answer gives pass 1's instruction count, the greatest height, and the length of the longest walk to an end."
pub data Verdict : Type 0 where
  accepted : ℕ → ℕ → ℕ → Verdict
  refused : Refusal → Verdict

unfoldable pub after3 : List ℕ → Pass3End → Verdict
after3 e (done hs ds g l) = accepted (length (starts e)) g l
after3 e (stopped x) = refused x

unfoldable pub after2 : List ℕ → Fault → Verdict
after2 e none = after3 e (pass3 one e)
after2 e (fault x) = refused x

unfoldable pub after1 : List ℕ → Fault → Verdict
after1 e none = after2 e (pass2 e)
after1 e (fault x) = refused x

-- "0 bytes, or more than 1,024": 1, at offset 0
unfoldable pub verdict : List ℕ → Verdict
verdict e = cond (leb 1 (length e) && leb (length e) expression_most) (after1 e (pass1 e)) (refused (refusal expression_size 0))

-- document 01's number and values for each case of the code's answer
abbrev pub verdict_of : Result code.Accepted code_refusal.Refusal → Verdict
verdict_of (Ok a) = accepted a.count a.greatest a.longest
verdict_of (Err x) = refused (told x)

-- no instruction of the expression is a setv: no run of it changes a variable
abbrev pub SetsNothing : List ℕ → Type 0
SetsNothing e = (k : ℕ) → is_start e k ≡ true → class_at e k ≢ setv
