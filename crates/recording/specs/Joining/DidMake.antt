-- That the code made the records that the machine's `Made` says, and goes on behind them.
use Rattle.std.specs.Prelude.{List, [], ◌≡◌, ℕ, ◌+◌, ◌≤◌, length, Result, Ok, Err}
use Rattle.refusals.specs.Numbers.{number_or_0}
use Rattle.refusals.specs.declared.Reason.{Reason}
use Rattle.encoding.specs.Written.{written_at}
use Rattle.frames.specs.Record.{encode_all}
use Rattle.machine.specs.Recording.{Made}
use Rattle.machine.specs.Meaning.{recording}
use Rattle.operations.specs.Joining.Did.{done_number, done_records, NumberSome}

-- the end of what is written after the answer w, which was p before: where it is refused, nothing is written
abbrev pub end_after : ℕ → Result ℕ Reason → ℕ
end_after p (Ok n) = n
end_after p (Err x) = p

-- into the buffer b, written up to p, the records of m were written, or it was refused; b' is the buffer then
pub record DidMake (b : List ℕ) (p : ℕ) (m : Made) (w : Result ℕ Reason) (b' : List ℕ) : Type 0 where
  pub stop : number_or_0 w ≡ done_number (recording [] m)
  pub put : end_after p w ≡ p + length (encode_all (done_records (recording [] m)))
  pub buffer : b' ≡ written_at b p (encode_all (done_records (recording [] m)))
  pub room : end_after p w ≤ length b
  pub some : NumberSome (recording [] m)
