use Rattle.std.proofs.Common.{get_or, arith}
use Rattle.text_buffer.proofs.Promises.{appends_same, one, more}
use Rattle.text_buffer.specs.Text.{bytes_of}
use Rattle.hexadecimal.specs.Hex.{pair_of}
use Rattle.frame_lines.proofs.Dumping.{cell_none, cell_some}
use Rattle.frame_lines.proofs.dump.append_cell.Goals as goal

pub returns-then-bytes-i-clause-text : goal.returns-then-bytes-i-clause-text
returns-then-bytes-i-clause-text c = let a = c.args in appends_same _ _ (cell_none a.bytes.now a.i c.if-bytes-i.true) c.append.ensures.text

pub returns-clause-text : goal.returns-clause-text
returns-clause-text c =
    let a = c.args in
    appends_same _ _ (cell_some a.bytes.now a.i (omega (arith, c.if-bytes-i.false)))
    (more (one (bytes_of " ") c.append-2.ensures.text) (pair_of (get_or a.bytes.now a.i 0)) c.append_byte.ensures.text).text
