use Rattle.expression_bytes.proofs.Reading.{start_behind, start_none}
use Rattle.expression_bytes.proofs.bytes_start.Goals as goal

pub returns-then-is_same : goal.returns-then-is_same
returns-then-is_same c = start_behind _ _ c.next_word-word.ensures _ c.is_same.ensures c.if-is_same.true

pub returns : goal.returns
returns c = start_none _ _ c.next_word-word.ensures _ c.is_same.ensures c.if-is_same.false
