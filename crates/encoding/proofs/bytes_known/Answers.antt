use Rattle.encoding.proofs.bytes_known.Goals as goal

pub returns : goal.returns
returns c = λ i. (c.type_inv.bytes i).fits
