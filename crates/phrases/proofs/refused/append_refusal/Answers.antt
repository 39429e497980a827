use Rattle.std.proofs.Common.{rules}
use Rattle.text_buffer.proofs.Promises.{appends_same}
use mathlib.Core.Path.{◌∙◌}
use Rattle.phrases.proofs.refused.append_refusal.Goals as goal

pub returns : goal.returns
returns c = let p = c.append.ensures in record { count = p.count; text = appends_same _ _ (c.as_bytes.ensures.value ∙ c.words_of.ensures) p.text; lent = search rules }
