-- Where an address is, and that a place was cleared.
use Rattle.std.specs.Prelude.{ℕ, ◌-◌, cond, List, [], ◌∷◌, Option, Some, None}
use Rattle.memory.specs.Spans.{Target}
use Rattle.memory.specs.Fetch.{holds_range}
use Rattle.memory.specs.declared.Held.{Held}
use Rattle.memory.specs.declared.Held.TheVariants.{InImage, InWork}

-- a place of two numbers in which nothing is told
abbrev pub cleared : List ℕ
cleared = 0 ∷ 0 ∷ []

-- the span that holds the address a, and the index of its byte there
unfoldable pub held_at : Target → ℕ → Option Held
held_at t a =
    cond (holds_range t.image a 1) (Some (InImage (a - t.image.first)))
    (cond (holds_range t.work a 1) (Some (InWork (a - t.work.first))) None)
