use Rattle.encoding.proofs.words_known.Goals as goal

pub returns : goal.returns
returns c = λ i. (c.type_inv.words i).fits
