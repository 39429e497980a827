use Rattle.std.proofs.Common.{[], refl, ◌∙◌}
use Rattle.text_buffer.proofs.Promises.{appends_length, appends_then}
use Rattle.hexadecimal.proofs.HexWriting.{encoding_start, encoding_byte, encoding_end}
use Rattle.hexadecimal.proofs.encode.Goals as goal

pub loop-byte-init : goal.loop-byte-init
loop-byte-init c = record { written = encoding_start _ _ _ c.append.ensures.count.0; lent = refl }

pub loop-byte-preserved : goal.loop-byte-preserved
loop-byte-preserved c =
    let b = c.append_byte in
    let i = c.loop-byte.invariant in
    record {
      written = encoding_byte i.written c.loop-byte-test.true _ _ b.ensures.count.0 (appends_length b.ensures.text) b.ensures.text;
      lent = b.ensures.lent ∙ i.lent;
    }

pub returns-clause-text : goal.returns-clause-text
returns-clause-text c = appends_then [] _ c.append.ensures.text (encoding_end c.loop-byte.invariant.written c.loop-byte-test.false)

pub returns-clause-lent : goal.returns-clause-lent
returns-clause-lent c = c.loop-byte.invariant.lent ∙ c.append.ensures.lent
