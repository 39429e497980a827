use Rattle.hexadecimal.specs.Hex.{is_blank}
use Rattle.line_words.specs.Words.{is_in_word}
use Rattle.line_words.proofs.Leading.{taken}
use Rattle.line_words.proofs.Wording.{word_found}
use Rattle.line_words.proofs.next_word.Goals as goal

pub returns : goal.returns
unfolding is_in_word
returns c = word_found _ _ _ _ c.requires (taken is_blank _ c.blanks.ensures) c.word_length.ensures
