-- What a trace instruction records (document 01, "Meanings the manual leaves open"). "Within a trace instruction the
-- order is 20, 19, 21."
use Rattle.std.specs.Prelude.{cond, List, [], ◌∷◌, ℕ, min, length, take, leb, ltb, eqb}
use Rattle.frames.specs.Record.{Record, memory, encode}
use Rattle.sizes.specs.Sizes.{record_most}
use Rattle.refusals.specs.Numbers.{range_not_readable, record_size, buffer_full}
use Rattle.memory.specs.Spans.{Target}
use Rattle.memory.specs.Fetch.{readable, fetched, rest_of}
use Rattle.memory.specs.FirstZero.{Sought, up_to_zero, all_of_size, cut_short, searched}

-- the records made, or a refusal
pub data Made : Type 0 where
  made : List Record → Made
  refuses : ℕ → Made

-- 21: "record, .. longer than the free bytes"
unfoldable pub fitting : ℕ → Record → Made
fitting free r = cond (leb (length (encode r)) free) (made (r ∷ [])) (refuses buffer_full)

-- trace, trace_quick and trace16. "A size of 0 in trace, trace_quick, trace16 or tracenz makes no record, at any
-- address."
unfoldable pub range_made : Target → ℕ → ℕ → ℕ → Made
range_made t free address size =
    cond (eqb size 0) (made [])
    (cond (ltb record_most size) (refuses record_size)
    (cond (readable t address size)
    (fitting free (memory address (fetched t address size)))
    (refuses range_not_readable)))

-- tracenz: "records up to and with the first zero byte, or SIZE bytes if none comes sooner. Only those bytes need be
-- readable, all in the span that holds ADDR. For it, 20 is given exactly if SIZE exceeds 65,535 and the first 65,535
-- bytes are readable and none is zero." `rest` are the bytes from ADDR to the end of its span, and the search went over
-- the first SIZE of them, or the first 65,535.
abbrev pub zero_made : ℕ → ℕ → ℕ → List ℕ → Sought → Made
zero_made free address size rest (up_to_zero n) = fitting free (memory address (take n rest))
zero_made free address size rest (all_of_size n) = cond (leb size record_most) (fitting free (memory address (take n rest))) (refuses record_size)
zero_made free address size rest (cut_short n) = refuses range_not_readable

unfoldable pub to_zero_made : Target → ℕ → ℕ → ℕ → Made
to_zero_made t free address size =
    cond (eqb size 0) (made [])
    (zero_made free address size (rest_of t address) (searched (min size record_most) (rest_of t address)))
