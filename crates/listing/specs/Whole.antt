-- `read_listing`: its answer, and the buffer that it leaves.
use Rattle.std.specs.Prelude.{ℕ, ◌+◌, List, [], ◌∷◌, Result, Ok, Err}
use Rattle.listing.specs.Line.{read_answer, read_left}
use Rattle.listing.specs.Meant.{meant}
use Rattle.listing.specs.Listing.{lines_of}
use Rattle.listing.specs.declared.reading.LineFault.{LineFault}
use Rattle.listing.specs.declared.reading.Unread.{Unread}
use Rattle.listing.specs.declared.reading.Unread.TheVariants.{Wrong}
use Rattle.listing.specs.declared.whole.ListingFault.{ListingFault}

pub record ListingOutcome : Type 0 where
  pub answer : Result ℕ ListingFault
  pub left : List ℕ

-- line n has a fault, at a column
abbrev pub wrong_line : ℕ → LineFault → ℕ → Result ℕ ListingFault
wrong_line n f c = Err (record { line = n; why = Wrong (record { reason = f; column = c }) })

-- after line n, which left the buffer o: the rest, if the line was read
abbrev pub after_line : ℕ → List ℕ → Result ℕ Unread → (ℕ → ListingOutcome) → ListingOutcome
after_line n o (Ok k) f = f k
after_line n o (Err u) f = record { answer = Err (record { line = n; why = u }); left = o }

-- the lines from number n on, where the next instruction's offset is `at` and the buffer is o
unfoldable pub outcome_from : ℕ → ℕ → List ℕ → List (List ℕ) → ListingOutcome
outcome_from n at o [] = record { answer = Ok at; left = o }
outcome_from n at o (l ∷ ls) =
    after_line n (read_left (meant at l) at o) (read_answer (meant at l) at o) (λ k. outcome_from (n + 1) (at + k) (read_left (meant at l) at o) ls)

-- the text t read into the buffer o
unfoldable pub outcome : List ℕ → List ℕ → ListingOutcome
outcome t o = outcome_from 1 0 o (lines_of t)
