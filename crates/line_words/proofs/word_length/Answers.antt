use Rattle.line_words.specs.Words.{is_in_word}
use Rattle.line_words.proofs.Leading.{taken}
use Rattle.line_words.proofs.word_length.Goals as goal

pub returns : goal.returns
unfolding is_in_word
returns c = taken is_in_word _ c.before_blank.ensures
