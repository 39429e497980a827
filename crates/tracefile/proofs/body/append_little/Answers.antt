use Rattle.std.proofs.Common.{rules}
use Rattle.std.proofs.Common.{refl}
use Rattle.text_buffer.proofs.Promises.{appends_same}
use Rattle.tracefile.proofs.Filing.{little_part}
use Rattle.tracefile.proofs.body.append_little.Goals as goal

pub returns : goal.returns
returns c = let a = c.args in record { count = c.append.ensures.count; text = appends_same _ _ (little_part a.count a.value _ _ c.put_little.ensures refl c.requires) c.append.ensures.text; lent = search rules }
