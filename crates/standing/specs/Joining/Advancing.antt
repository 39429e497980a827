-- The steps of a run that no refusal tried before stepping ends.
use Rattle.std.specs.Prelude.{List, ℕ, Option}
use Rattle.machine.specs.Given.{Given, begin}
use Rattle.machine.specs.Machine.{stands}
use Rattle.machine.specs.Standing.{standing_from}
use Rattle.standing.specs.Seen.{StandsIn}
use Rattle.standing.specs.declared.Stood.{Stood}

abbrev pub Advanced : Given → Option Stood → List ℕ → List ℕ → List ℕ → Type 0
Advanced g r a v b = StandsIn g (standing_from g (stands (begin g)) g.allowance) r a v b
