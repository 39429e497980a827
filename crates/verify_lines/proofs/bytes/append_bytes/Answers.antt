use Rattle.std.proofs.Common.{rules}
use Rattle.std.proofs.Common.{[]}
use Rattle.text_buffer.proofs.Promises.{one, more}
use Rattle.verify_lines.specs.Bytes.{bytes_text}
use Rattle.verify_lines.proofs.bytes.append_bytes.Goals as goal

pub returns : goal.returns
returns c = record { count = c.append_lines.ensures.count; text = (more (one [] c.append.ensures.text) (bytes_text c.args.code.now) c.append_lines.ensures.text).text; lent = search rules }
