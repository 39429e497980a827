-- What users of `stepping` may cite, besides the contract of `step`: the laws of a loop of steps.
-- Loop m v b a q n: after n steps of the machine that is given m, from its beginning on, the code holds the machine's
-- variables v, the buffer b with its records, its stack as the lowest cells of a, and stands at the place q.
pub use Rattle.stepping.proofs.Looping.{state, Loop}
-- how the loop starts, what a step asks, and that the buffer stays as long
pub use Rattle.stepping.proofs.Looping.{loop_start, step_ready, as_long, inside, low}
-- a step that went on; an end, where there is room for the trailer; and one that was refused
pub use Rattle.stepping.proofs.Looping.{turn, AtEnd, ends, AtRefusal, halts}
-- the steps done, where so many are left
pub use Rattle.stepping.proofs.Looping.{still_left, one_less}
