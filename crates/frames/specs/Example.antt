-- Document 01, "Examples": working memory at 4096 holds 41 00 42; tracepoint 7; `23 10 00 0d 02 27` leaves this frame.
use Rattle.std.specs.Prelude.{List, [], ◌∷◌, ℕ}
use Rattle.frames.specs.Record.{Record, memory}

unfoldable pub example_frame : List ℕ
example_frame =
    0x4d ∷ 0x00 ∷ 0x10 ∷ 0x00 ∷ 0x00 ∷ 0x00 ∷ 0x00 ∷ 0x00 ∷ 0x00 ∷ 0x02 ∷ 0x00 ∷ 0x41 ∷ 0x00
    ∷ 0x46 ∷ 0x00 ∷ 0x07 ∷ 0x00 ∷ 0x0d ∷ 0x00 ∷ 0x00 ∷ 0x00 ∷ []

unfoldable pub example_records : List Record
example_records = memory 4096 (0x41 ∷ 0x00 ∷ []) ∷ []
