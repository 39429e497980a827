-- What the list of frames goes by (the manual, "Showing what was recorded").
use Rattle.std.specs.Prelude.{ℕ, Bool, ◌==◌}
use Rattle.refusals.specs.Numbers.{record_broken}
use Rattle.reader.specs.Read.{Counted, counted, refused_count}

-- the number of the refusal, and 0 where there is none
abbrev pub refusal_in : Counted → ℕ
refusal_in (counted tag start long n) = 0
refusal_in (refused_count r) = r.number

-- "a frame with a broken record (23)", which "does not end the list"
unfoldable pub broken_in : Counted → Bool
broken_in c = refusal_in c == record_broken
