-- The loop's invariant: behind n the row is spaces.
use Rattle.text_buffer.proofs.Tables.{Trimming}
use Rattle.text_buffer.proofs.rows.row_length.Given as goal

abbrev pub invariant-loop-n : goal.invariant-loop-n
invariant-loop-n l = Trimming l.row l.n
