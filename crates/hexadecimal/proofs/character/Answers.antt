use Rattle.hexadecimal.proofs.HexWriting.{glyph_low, glyph_high}
use Rattle.hexadecimal.proofs.character.Goals as goal

pub returns-then-digit-lt10 : goal.returns-then-digit-lt10
returns-then-digit-lt10 c = glyph_low _ c.if-digit-lt10.true

pub returns : goal.returns
returns c = glyph_high _ c.if-digit-lt10.false
