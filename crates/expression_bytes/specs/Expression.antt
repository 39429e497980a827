-- The bytes of an expression as a text: hexadecimal, with the word `bytes` or a packet's length in front.
use Rattle.std.specs.Prelude.{ℕ, ◌+◌, ◌≤◌, Bool, true, false, cond, not, List, ◌≡◌, eqb, length, take, drop, get_or, Option, Some, None, Result, Ok, Err}
use Rattle.text_buffer.specs.Text.{bytes_of}
use Rattle.hexadecimal.specs.Hex.{reading_of, written_over}
use Rattle.hexadecimal.specs.Told.{hex_answer_of}
use Rattle.hexadecimal.specs.declared.HexError.{HexError}
use Rattle.line_words.specs.Words.{leading, Word, first_word, behind, same_bytes}
use Rattle.line_words.specs.Numbers.{is_digit, number_in}
use Rattle.line_words.specs.declared.numbers.NumberError.{NumberError}
use Rattle.expression_bytes.specs.declared.Front.{Front}
use Rattle.expression_bytes.specs.declared.ExpressionRead.{ExpressionRead}

-- behind the word `bytes`, if the text begins with it: lines of bytes that the tool prints do
abbrev pub bytes_behind : Word → ℕ
bytes_behind w = cond (same_bytes (bytes_of "bytes") w.bytes) (behind w) 0

unfoldable pub bytes_start : List ℕ → ℕ
bytes_start t = bytes_behind (first_word 0 t)

abbrev pub is_not_comma : ℕ → Bool
is_not_comma c = not (eqb c 44)

-- the comma at k of the word w stands between bytes: two digits before it, and no third behind it
unfoldable pub is_list : List ℕ → ℕ → Bool
is_list w k = cond (eqb k 2) (not (is_digit 16 (get_or w 5 0))) false

-- a length is a hexadecimal number before the first comma, at k, of a word w
abbrev pub by_number_of : ℕ → Result ℕ NumberError → Option Front
by_number_of k (Ok v) = Some (record { value = v; characters = k + 1 })
by_number_of k (Err e) = None

abbrev pub by_comma : List ℕ → ℕ → Option Front
by_comma w k = cond (eqb k (length w)) None (cond (is_list w k) None (by_number_of k (number_in 16 (take k w))))

unfoldable pub length_of : List ℕ → Option Front
length_of w = by_comma w (leading is_not_comma w)

-- bytes with a length in front are as many as it says
abbrev pub count_is : ℕ → Result ℕ HexError → Bool
count_is v (Ok n) = eqb n v
count_is v (Err e) = true

unfoldable pub is_fitting : Option Front → Result ℕ HexError → Bool
is_fitting None a = true
is_fitting (Some f) a = count_is f.value a

-- the first word behind the word `bytes`; the length in it, and where the digits begin
abbrev pub word_in : List ℕ → Word
word_in t = first_word (bytes_start t) (drop (bytes_start t) t)

unfoldable pub read_front : List ℕ → Option Front
read_front t = length_of (word_in t).bytes

abbrev pub start_by : ℕ → ℕ → Option Front → ℕ
start_by from column None = from
start_by from column (Some f) = column + f.characters

unfoldable pub read_start : List ℕ → ℕ
read_start t = start_by (bytes_start t) (word_in t).column (read_front t)

-- the text t was read from p on into the buffer o, with the length f in front: r is the answer, and o' what is left
pub record ReadAt (t : List ℕ) (p : ℕ) (f : Option Front) (o : List ℕ) (r : ExpressionRead) (o' : List ℕ) : Type 0 where
  pub start_is : r.start ≡ p
  pub answer_is : r.answer ≡ hex_answer_of (reading_of (drop p t) (length o))
  pub bytes_is : o' ≡ written_over o (reading_of (drop p t) (length o))
  pub fitting_is : r.fitting ≡ is_fitting f r.answer
  pub within : (n : ℕ) → r.answer ≡ Ok n → n ≤ length o'
