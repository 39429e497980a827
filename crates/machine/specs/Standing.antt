-- Where the machine stands after so many moves, whatever the allowance (document 01, "Running": "Otherwise it holds an
-- offset, a stack, the variables, the records made and the steps done").
use Rattle.std.specs.Prelude.{ℕ, zero, suc}
use Rattle.machine.specs.Given.{Given}
use Rattle.machine.specs.Machine.{Standing, stands, over, move}
use Rattle.machine.specs.Run.{begun}

-- a machine that has ended moves no more
abbrev pub next : Given → Standing → Standing
next g (stands st) = move g st
next g (over o) = over o

-- n moves on from s
unfoldable pub standing_from : Given → Standing → ℕ → Standing
standing_from g s zero = s
standing_from g s (suc n) = next g (standing_from g s n)

abbrev pub standing : Given → ℕ → Standing
standing g n = standing_from g (begun g) n
