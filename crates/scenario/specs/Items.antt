-- What a line of a scenario says: nothing, a thing that is set, loaded or saved, or an expression that is run. Blanks
-- stand between its words.
use Rattle.std.specs.Prelude.{ℕ, suc, ◌+◌, ◌-◌, Bool, true, false, cond, List, [], ◌∷◌, leb, eqb, length, take, drop, find, Option, Some, None, Result, Ok, Err}
use Prim.Native.String.{String}
use Rattle.sizes.specs.Sizes.{variable_count, registers_most, buffer_most, tracepoint_most}
use Rattle.hexadecimal.specs.Hex.{is_blank}
use Rattle.text_buffer.specs.Text.{bytes_of}
use Rattle.line_words.specs.Words.{Word, first_word, behind, same_bytes}
use Rattle.line_words.specs.Numbers.{word_number}
use Rattle.line_words.specs.declared.Place.{Place}
use Rattle.line_words.specs.declared.numbers.NumberError.{NumberError}
use Rattle.line_words.specs.declared.numbers.NumberError.TheVariants.{Large, Not}
use Rattle.scenario.specs.declared.Keyword.{Keyword}
use Rattle.scenario.specs.declared.Keyword.TheVariants.{Image, Memory, Register, Variable, Registers, Tracepoint, Buffer, Allowance, Load, Save, Run}
use Rattle.scenario.specs.declared.ItemFault.{ItemFault}
use Rattle.scenario.specs.declared.ItemFault.TheVariants.{UnknownWord, MissingWord, NotNumber, TooLarge, LeftOver}
use Rattle.scenario.specs.declared.ItemError.{ItemError}
use Rattle.scenario.specs.declared.Item.{Item}
use Rattle.scenario.specs.declared.Item.TheVariants.{Nothing, Bytes, File, Set, DefaultAllowance}
use Rattle.scenario.specs.declared.NumberRead.{NumberRead}

-- ---- a line is refused for a fault at a column
abbrev pub wrong : {A : Type 0} → ItemFault → ℕ → Result A ItemError
wrong fault column = Err (record { fault = fault; column = column })

-- a place in the line, from a column to another
abbrev pub place : ℕ → ℕ → Place
place start end = record { start = start; end = end }

-- ---- a comment begins at a `#` at the start of the line or after a blank
unfoldable pub opens_comment : Bool → ℕ → Bool
opens_comment afterBlank c = cond afterBlank (eqb c 35) false

-- how many characters of a text come before the comment
unfoldable pub columns_before_comment : Bool → List ℕ → ℕ
columns_before_comment afterBlank [] = 0
columns_before_comment afterBlank (c ∷ l) = cond (opens_comment afterBlank c) 0 (suc (columns_before_comment (is_blank c) l))

-- ---- the words that lines begin with
unfoldable pub text_of : Keyword → String
text_of Image = "image"
text_of Memory = "memory"
text_of Register = "register"
text_of Variable = "variable"
text_of Registers = "registers"
text_of Tracepoint = "tracepoint"
text_of Buffer = "buffer"
text_of Allowance = "allowance"
text_of Load = "load"
text_of Save = "save"
text_of Run = "run"

abbrev pub keywords : List Keyword
keywords =
    Image ∷ Memory ∷ Register ∷ Variable ∷ Registers ∷ Tracepoint ∷ Buffer ∷ Allowance ∷ Load ∷ Save ∷ Run ∷ []

-- nothing for any other word
unfoldable pub keyword_of : List ℕ → Option Keyword
keyword_of w = find (λ k. same_bytes (bytes_of (text_of k)) w) keywords

abbrev pub most : ℕ
most = 18446744073709551615

-- the greatest number that may follow a first word: registers 0 to 255 are set, up to 257 are lent
unfoldable pub limit_of : Keyword → ℕ
limit_of Register = registers_most - 1
limit_of Variable = variable_count - 1
limit_of Registers = registers_most + 1
limit_of Tracepoint = tracepoint_most
limit_of Buffer = buffer_most
limit_of _ = most

-- ---- the first word of a line from column p on
abbrev pub word_from : List ℕ → ℕ → Word
word_from line p = first_word p (drop p line)

abbrev pub is_none : Word → Bool
is_none w = eqb (length w.bytes) 0

-- ---- an item, if no word follows it
abbrev pub item_ended_by : Item → Word → Result Item ItemError
item_ended_by i w = cond (is_none w) (Ok i) (wrong LeftOver w.column)

unfoldable pub item_ended : Item → List ℕ → ℕ → Result Item ItemError
item_ended i line p = item_ended_by i (word_from line p)

-- ---- a number up to a limit, and the column behind it
abbrev pub number_read : ℕ → ℕ → NumberRead
number_read value end = record { value = value; end = end }

abbrev pub by_number_of : ℕ → Word → Result ℕ NumberError → Result NumberRead ItemError
by_number_of limit w (Ok v) = cond (leb v limit) (Ok (number_read v (behind w))) (wrong TooLarge w.column)
by_number_of limit w (Err Large) = wrong TooLarge w.column
by_number_of limit w (Err Not) = wrong NotNumber w.column

abbrev pub number_by : ℕ → Word → Result NumberRead ItemError
number_by limit w = cond (is_none w) (wrong MissingWord w.column) (by_number_of limit w (word_number w.bytes))

unfoldable pub number_from : ℕ → List ℕ → ℕ → Result NumberRead ItemError
number_from limit line p = number_by limit (word_from line p)

-- the line goes on behind a number, or ends with its fault
abbrev pub then_by : Result NumberRead ItemError → (ℕ → ℕ → Result Item ItemError) → Result Item ItemError
then_by (Ok read) f = f read.value read.end
then_by (Err e) f = Err e

-- ---- what follows a first word: `LINE from column p on`
unfoldable pub set_from : Keyword → ℕ → ℕ → List ℕ → ℕ → Result Item ItemError
set_from k which limit line p = then_by (number_from limit line p) (λ v q. item_ended (Set k which v) line q)

unfoldable pub pair_from : Keyword → List ℕ → ℕ → Result Item ItemError
pair_from k line p = then_by (number_from (limit_of k) line p) (λ which q. set_from k which most line q)

abbrev pub file_by : Keyword → ℕ → List ℕ → Word → Result Item ItemError
file_by k first line w =
    cond (is_none w) (wrong MissingWord w.column) (item_ended (File k first (place w.column (behind w))) line (behind w))

unfoldable pub file_from : Keyword → ℕ → List ℕ → ℕ → Result Item ItemError
file_from k first line p = file_by k first line (word_from line p)

-- `bytes` and hexadecimal text, or `file` and a name
abbrev pub source_by : Keyword → ℕ → List ℕ → Word → Result Item ItemError
source_by k first line w =
    cond (is_none w) (wrong MissingWord w.column)
    (cond (same_bytes (bytes_of "bytes") w.bytes) (Ok (Bytes k first (place (behind w) (length line))))
    (cond (same_bytes (bytes_of "file") w.bytes) (file_from k first line (behind w))
    (wrong UnknownWord w.column)))

unfoldable pub source_from : Keyword → ℕ → List ℕ → ℕ → Result Item ItemError
source_from k first line p = source_by k first line (word_from line p)

unfoldable pub span_from : Keyword → List ℕ → ℕ → Result Item ItemError
span_from k line p = then_by (number_from most line p) (λ first q. source_from k first line q)

-- `default`, or a number
abbrev pub allowance_by : List ℕ → ℕ → Word → Result Item ItemError
allowance_by line p w =
    cond (same_bytes (bytes_of "default") w.bytes) (item_ended DefaultAllowance line (behind w)) (set_from Allowance 0 most line p)

unfoldable pub allowance_from : List ℕ → ℕ → Result Item ItemError
allowance_from line p = allowance_by line p (word_from line p)

-- the line behind its first word
unfoldable pub rest_of_line : Keyword → List ℕ → ℕ → Result Item ItemError
rest_of_line Image line p = span_from Image line p
rest_of_line Memory line p = span_from Memory line p
rest_of_line Register line p = pair_from Register line p
rest_of_line Variable line p = pair_from Variable line p
rest_of_line Registers line p = set_from Registers 0 (limit_of Registers) line p
rest_of_line Tracepoint line p = set_from Tracepoint 0 (limit_of Tracepoint) line p
rest_of_line Buffer line p = set_from Buffer 0 (limit_of Buffer) line p
rest_of_line Allowance line p = allowance_from line p
rest_of_line Load line p = file_from Load 0 line p
rest_of_line Save line p = file_from Save 0 line p
rest_of_line Run line p = Ok (Bytes Run 0 (place p (length line)))

-- the line by its first word, which stands at column c
abbrev pub item_by_keyword : Option Keyword → ℕ → List ℕ → ℕ → Result Item ItemError
item_by_keyword (Some k) c line p = rest_of_line k line p
item_by_keyword None c line p = wrong UnknownWord c

abbrev pub item_by : List ℕ → Word → Result Item ItemError
item_by line w = cond (is_none w) (Ok Nothing) (item_by_keyword (keyword_of w.bytes) w.column line (behind w))

unfoldable pub item_in : List ℕ → Result Item ItemError
item_in line = item_by line (word_from line 0)

unfoldable pub item_of : List ℕ → Result Item ItemError
item_of line = item_in (take (columns_before_comment true line) line)
