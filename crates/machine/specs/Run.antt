-- A run on any input: the refusals tried before stepping, the machine, and what is returned (document 01, "Running").
use Rattle.std.specs.Prelude.{Bool, cond, List, [], ◌∷◌, ◌++◌, ℕ, ◌+◌, length, eqb, ltb}
use Rattle.sizes.specs.Sizes.{registers_most}
use Rattle.refusals.specs.Numbers.{registers_many, buffer_bad}
use Rattle.refusals.specs.Refusal.{refusal}
use Rattle.refusals.specs.Tried.{tried}
use Rattle.encoding.specs.Written.{written_at}
use Rattle.memory.specs.Spans.{Target, span_tests}
use Rattle.frames.specs.Record.{encode_all}
use Rattle.frames.specs.Trailer.{tag_of}
use Rattle.frames.specs.Frame.{encode_frame}
use Rattle.frames.specs.Buffer.{unfit}
use Rattle.verdict.specs.Verdict.{Verdict, accepted, refused, verdict}
use Rattle.machine.specs.Given.{Given, begin}
use Rattle.machine.specs.Machine.{Ended, completed, stopped, Standing, stands, over, onward, moves}

-- 12 and 13 of the spans; 14: "over 256 registers"; 15 of the buffer
abbrev pub input_tests : List ℕ → Target → List ℕ → ℕ → List (Bool × ℕ)
input_tests registers t buffer used =
    span_tests t ++ ((ltb registers_most (length registers), registers_many) ∷ (unfit buffer used, buffer_bad) ∷ [])

unfoldable pub input_refusal : Given → ℕ
input_refusal g = tried (input_tests g.registers g.target g.buffer g.used)

abbrev pub after_inputs : Given → ℕ → Standing
after_inputs g r = cond (eqb r 0) (stands (begin g)) (over (stopped (refusal r 0) []))

abbrev pub after_verdict : Given → Verdict → Standing
after_verdict g (accepted n h l) = after_inputs g (input_refusal g)
after_verdict g (refused r) = over (stopped r [])

-- Before the first move: "A refusal tried before stepping (here 1 to 15) ends it, with 0 steps and no records." "The
-- runner verifies first, then checks 12 to 15, then steps."
abbrev pub begun : Given → Standing
begun g = after_verdict g (verdict g.expression)

unfoldable pub ended : Given → Ended
ended g = onward (moves g g.allowance) (begun g)

-- the moves from the beginning on, where no refusal is met before
abbrev pub stepped : Given → Ended
stepped g = moves g g.allowance (begin g)

-- "An entry without an allowance uses 1,024."
abbrev pub default_allowance : ℕ
default_allowance = 1024

-- ---- what a run leaves of what it is given: variables, buffer and used length
-- the bytes written from the old used length on: the frame where the run completed, else the records made before the
-- refusal
unfoldable pub left_bytes : Given → Ended → List ℕ
left_bytes g (completed a n v rs) = encode_frame (tag_of g.tracepoint) rs
left_bytes g (stopped r rs) = encode_all rs

unfoldable pub variables_of : Given → Ended → List ℕ
variables_of g (completed a n v rs) = v
variables_of g (stopped r rs) = g.variables

unfoldable pub used_of : Given → Ended → ℕ
used_of g (completed a n v rs) = g.used + length (left_bytes g (completed a n v rs))
used_of g (stopped r rs) = g.used

unfoldable pub buffer_of : Given → Ended → List ℕ
buffer_of g o = written_at g.buffer g.used (left_bytes g o)

-- ---- the steps done, and the number of the refusal: 0 where the run completed
unfoldable pub steps_of : Ended → ℕ
steps_of (completed a n v rs) = n
steps_of (stopped r rs) = r.steps

unfoldable pub number_of : Ended → ℕ
number_of (completed a n v rs) = 0
number_of (stopped r rs) = r.number
