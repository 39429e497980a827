use Rattle.std.proofs.Common.{rules}
use Rattle.text_buffer.proofs.Promises.{appends_same}
use Rattle.hexadecimal.proofs.HexWriting.{pair_is}
use Rattle.hexadecimal.proofs.append_byte.Goals as goal

pub returns : goal.returns
returns c =
    let p = c.append in
    let e = pair_is c.args.byte _ _ c.character.ensures c.character-2.ensures in
    record { count = p.ensures.count; text = appends_same _ _ e p.ensures.text; lent = search rules }
