use Rattle.std.proofs.Common.{rules}
use Rattle.text_buffer.proofs.Promises.{appends_same}
use Rattle.verify_lines.proofs.Rows.{gap_is}
use Rattle.verify_lines.proofs.listed.append_gap.Goals as goal

pub returns : goal.returns
returns c = record { count = c.append.ensures.count; text = appends_same _ _ (gap_is c.args.n c.min.result c.min.ensures) c.append.ensures.text; lent = search rules }
