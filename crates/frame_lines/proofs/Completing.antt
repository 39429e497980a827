-- The last line, for the proof of `append_completed`. Assumes nothing.
use Rattle.std.proofs.Common.{◌≡◌, ℕ, List, ◌++◌, eq-eqb, ne_eqb}
use Rattle.text_buffer.specs.Text.{bytes_of}
use Rattle.text_buffer.specs.Decimal.{decimal}
use Rattle.phrases.specs.Numbers.{count_text}
use Rattle.frame_lines.specs.Lines.{completed_frames_text}

-- ---- none refused, or some
pub completed_all : (n : ℕ) (w : List ℕ) (r : ℕ) → r ≡ 0 → bytes_of "completed: " ++ count_text n w ++ bytes_of "\n" ≡ completed_frames_text n w r
unfolding completed_frames_text
completed_all n w r h = rw (eq-eqb r 0 h)

pub completed_some : (n : ℕ) (w : List ℕ) (r : ℕ) → (r ≡ 0 → ⊥) → bytes_of "completed: " ++ count_text n w ++ bytes_of ", " ++ decimal r ++ bytes_of " of them refused\n" ≡ completed_frames_text n w r
unfolding completed_frames_text
completed_some n w r h = rw (ne_eqb r 0 h)
