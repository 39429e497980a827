-- What users of `scenario` may cite: of any line, the answer of `read_line` is `item_of` of it (src/lib.rt); and what a
-- comment and an empty line say.
use Prim.Native.Nat.{ℕ}
use mathlib.Core.List.{List, [], ◌∷◌}
use mathlib.Core.Path.{◌≡◌, refl}
use Rattle.std.specs.Prelude.{Ok}
use Rattle.scenario.specs.Items.{opens_comment, columns_before_comment, item_in, item_of}
use Rattle.scenario.specs.declared.Item.TheVariants.{Nothing}
use Rattle.line_words.specs.Words.{first_word}

pub empty_line : item_of [] ≡ Ok Nothing
unfolding columns_before_comment first_word item_in item_of
empty_line = refl

-- a line that begins with # says nothing, whatever follows
pub comment_line : (l : List ℕ) → item_of (35 ∷ l) ≡ Ok Nothing
unfolding opens_comment columns_before_comment first_word item_in item_of
comment_line l = refl
