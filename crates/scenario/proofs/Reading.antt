-- A line read word by word: one law for each way out of a function. Assumes nothing.
use Prim.Native.Nat.{ℕ, suc, ◌+◌, ◌-◌, ◌≤◌, ◌<◌}
use native.Mathlib.Numerals.{add-one}
use native.Mathlib.Omega.{arith}
use mathlib.Core.Bool.{Bool, true, false, cond}
use mathlib.Core.List.{List, ◌∷◌}
use mathlib.Core.Path.{◌≡◌, refl, sym, ap, ◌∙◌}
use lib.Dec.{leb}
use lib.ListN.{length, take, drop, get_or, drop_of_length-le}
use lib.Seq.{drop-cons}
use borrow.Author.Tests.{le-leb, lt-leb}
use Rattle.std.specs.Prelude.{Option, Result, Ok, Err}
use Rattle.logic.proofs.Promises.{no_true}
use Rattle.hexadecimal.specs.Hex.{is_blank}
use Rattle.text_buffer.specs.Text.{bytes_of}
use Rattle.line_words.specs.Words.{Word, first_word, behind, IsAt, same_bytes}
use Rattle.line_words.specs.Numbers.{word_number}
use Rattle.line_words.specs.declared.Place.{Place}
use Rattle.line_words.specs.declared.numbers.NumberError.{NumberError}
use Rattle.line_words.specs.declared.numbers.NumberError.TheVariants.{Large, Not}
use Rattle.line_words.proofs.Promises.{no_word, a_word}
use Rattle.scenario.specs.Items.{wrong, place, number_read, opens_comment, columns_before_comment, text_of, keyword_of, most, limit_of, word_from, is_none, item_ended, by_number_of, number_from, then_by, set_from, pair_from, file_from, source_from, span_from, allowance_from, item_by_keyword, item_in}
use Rattle.scenario.specs.declared.Keyword.{Keyword}
use Rattle.scenario.specs.declared.Keyword.TheVariants.{Allowance}
use Rattle.scenario.specs.declared.ItemFault.TheVariants.{UnknownWord, MissingWord, NotNumber, TooLarge, LeftOver}
use Rattle.scenario.specs.declared.ItemError.{ItemError}
use Rattle.scenario.specs.declared.Item.{Item}
use Rattle.scenario.specs.declared.Item.TheVariants.{Nothing, Bytes, File, Set, DefaultAllowance}
use Rattle.scenario.specs.declared.NumberRead.{NumberRead}

-- what a function of this crate answers
abbrev pub Answer : Type 0
Answer = Result Item ItemError

-- ---- a test that is decided
when : (t : Bool) (x y : Answer) → t ≡ true → x ≡ cond t x y
when true x y p = refl
when false x y p = no_true p

unless : (t : Bool) (x y : Answer) → t ≡ false → y ≡ cond t x y
unless true x y p = no_true (sym p)
unless false x y p = refl

-- ---- the loop of `before_comment`: n characters are passed, and b says whether the last of them is a blank
pub record Cutting (line : List ℕ) (b : Bool) (n : ℕ) : Type 0 where
  pub within : n ≤ length line
  pub rest : columns_before_comment true line ≡ n + columns_before_comment b (drop n line)

abbrev pub Cut : List ℕ → ℕ → Type 0
Cut line n = (n ≡ columns_before_comment true line) × (n ≤ length line)

pub cutting_start : (line : List ℕ) → Cutting line true 0
cutting_start line = record { within = omega arith; rest = omega arith }

module _ {line : List ℕ} {b : Bool} {n : ℕ} (c : Cutting line b n) where
  pub cutting_end : length line ≤ n → Cut line n
  unfolding columns_before_comment
  cutting_end h = (omega (arith, c.rest, ap (columns_before_comment b) (drop_of_length-le line h)), c.within)

  module _ (more : n < length line) (x : Bool) (is : x ≡ opens_comment b (get_or line n 0)) where
    step : columns_before_comment b (drop n line) ≡ cond x 0 (suc (columns_before_comment (is_blank (get_or line n 0)) (drop (n + 1) line)))
    unfolding columns_before_comment
    step =
        let t : drop n line ≡ get_or line n 0 ∷ drop (n + 1) line = rw (add-one, drop-cons line n 0) in
        ap (columns_before_comment b) t ∙ ap (λ (y : Bool). cond y 0 (suc (columns_before_comment (is_blank (get_or line n 0)) (drop (n + 1) line)))) (sym is)

    pub cutting_stop : x ≡ true → Cut line n
    cutting_stop t = (omega (arith, c.rest, rw t at step), c.within)

    pub cutting_more : x ≡ false → (d : Bool) → d ≡ is_blank (get_or line n 0) → Cutting line d (n + 1)
    cutting_more f d e =
        let q : columns_before_comment b (drop n line) ≡ suc (columns_before_comment d (drop (n + 1) line))
        = (rw f at step) ∙ ap (λ (y : Bool). suc (columns_before_comment y (drop (n + 1) line))) (sym e) in
        record { within = omega arith; rest = omega (arith, c.rest, q) }

-- ---- the text of a word
pub text_at : (k j : Keyword) → k ≡ j → bytes_of (text_of j) ≡ bytes_of (text_of k)
text_at k j p = ap (λ (i : Keyword). bytes_of (text_of i)) (sym p)

-- ---- the answers at one word
module _ (line : List ℕ) (p : ℕ) {r : Place} (i : IsAt line r (first_word p (drop p line))) where
  abbrev word : Word
  word = word_from line p

  abbrev text : List ℕ
  text = take (r.end - r.start) (drop r.start line)

  -- the line goes on behind the word as the code goes on
  goes_on : (f : ℕ → Answer) → f r.end ≡ f (behind word)
  goes_on f = ap f i.end_is

  is_text : (s : List ℕ) (b : Bool) → b ≡ same_bytes s text → same_bytes s word.bytes ≡ b
  is_text s b e = sym (e ∙ ap (same_bytes s) i.bytes_is)

  module _ (none : r.start ≡ r.end) where
    pub ends_here : (x : Item) → Ok x ≡ item_ended x line p
    unfolding item_ended
    ends_here x = rw (no_word i none)

    pub number_none : (limit : ℕ) → wrong MissingWord r.start ≡ number_from limit line p
    unfolding number_from
    number_none limit = rw (no_word i none) (ap (wrong MissingWord) i.start_is)

    pub file_none : (k : Keyword) (first : ℕ) → wrong MissingWord r.start ≡ file_from k first line p
    unfolding file_from
    file_none k first = rw (no_word i none) (ap (wrong MissingWord) i.start_is)

    pub source_none : (k : Keyword) (first : ℕ) → wrong MissingWord r.start ≡ source_from k first line p
    unfolding source_from
    source_none k first = rw (no_word i none) (ap (wrong MissingWord) i.start_is)

  module _ (some : r.start ≡ r.end → ⊥) where
    pub ends_later : (x : Item) → wrong LeftOver r.start ≡ item_ended x line p
    unfolding item_ended
    ends_later x = rw (a_word i some) (ap (wrong LeftOver) i.start_is)

    pub file_named : (k : Keyword) (first : ℕ) → item_ended (File k first r) line r.end ≡ file_from k first line p
    unfolding file_from
    file_named k first =
        rw (a_word i some)
        (ap (λ (s : ℕ). item_ended (File k first (place s r.end)) line r.end) i.start_is ∙ goes_on (λ e. item_ended (File k first (place word.column e)) line e))

    -- a number, which is x
    module _ (limit : ℕ) (x : Result ℕ NumberError) (is : x ≡ word_number text) where
      by_number : by_number_of limit word x ≡ number_from limit line p
      unfolding number_from
      by_number = rw (a_word i some) (ap (by_number_of limit word) (is ∙ ap word_number i.bytes_is))

      pub number_not : x ≡ Err Not → wrong NotNumber r.start ≡ number_from limit line p
      number_not h = ap (wrong NotNumber) i.start_is ∙ ap (by_number_of limit word) (sym h) ∙ by_number

      pub number_large : x ≡ Err Large → wrong TooLarge r.start ≡ number_from limit line p
      number_large h = ap (wrong TooLarge) i.start_is ∙ ap (by_number_of limit word) (sym h) ∙ by_number

      module _ (v : ℕ) (h : x ≡ Ok v) where
        by_value : cond (leb v limit) (Ok (number_read v (behind word))) (wrong TooLarge word.column) ≡ number_from limit line p
        by_value = ap (by_number_of limit word) (sym h) ∙ by_number

        pub number_fits : v ≤ limit → Ok (number_read v r.end) ≡ number_from limit line p
        number_fits l = ap (λ (e : ℕ). Ok (number_read v e)) i.end_is ∙ (rw (le-leb v limit l) at by_value)

        pub number_over : limit < v → wrong TooLarge r.start ≡ number_from limit line p
        number_over l = ap (wrong TooLarge) i.start_is ∙ (rw (lt-leb v limit l) at by_value)

    -- `bytes` or `file`
    module _ (k : Keyword) (first : ℕ) (b : Bool) (is : b ≡ same_bytes (bytes_of "bytes") text) where
      pub source_bytes : b ≡ true → Ok (Bytes k first (place r.end (length line))) ≡ source_from k first line p
      unfolding source_from
      source_bytes t =
          goes_on (λ e. Ok (Bytes k first (place e (length line))))
          ∙ when (same_bytes (bytes_of "bytes") word.bytes) _ _ (is_text (bytes_of "bytes") b is ∙ t) ∙ unless (is_none word) _ _ (a_word i some)

      module _ (other : b ≡ false) (d : Bool) (is-file : d ≡ same_bytes (bytes_of "file") text) where
        by_source : (x : Answer) → x ≡ cond (same_bytes (bytes_of "file") word.bytes) (file_from k first line (behind word)) (wrong UnknownWord word.column) → x ≡ source_from k first line p
        unfolding source_from
        by_source x e = e ∙ unless (same_bytes (bytes_of "bytes") word.bytes) _ _ (is_text (bytes_of "bytes") b is ∙ other) ∙ unless (is_none word) _ _ (a_word i some)

        pub source_file : d ≡ true → file_from k first line r.end ≡ source_from k first line p
        source_file t =
            goes_on (file_from k first line) ∙ by_source _ (when (same_bytes (bytes_of "file") word.bytes) _ _ (is_text (bytes_of "file") d is-file ∙ t))

        pub source_other : d ≡ false → wrong UnknownWord r.start ≡ source_from k first line p
        source_other f =
            ap (wrong UnknownWord) i.start_is
            ∙ by_source _ (unless (same_bytes (bytes_of "file") word.bytes) _ _ (is_text (bytes_of "file") d is-file ∙ f))

  -- `default`, or a number
  module _ (b : Bool) (is : b ≡ same_bytes (bytes_of "default") text) where
    pub allowance_default : b ≡ true → item_ended DefaultAllowance line r.end ≡ allowance_from line p
    unfolding allowance_from
    allowance_default t = goes_on (item_ended DefaultAllowance line) ∙ when (same_bytes (bytes_of "default") word.bytes) _ _ (is_text (bytes_of "default") b is ∙ t)

    pub allowance_number : b ≡ false → set_from Allowance 0 most line p ≡ allowance_from line p
    unfolding allowance_from
    allowance_number f = unless (same_bytes (bytes_of "default") word.bytes) _ _ (is_text (bytes_of "default") b is ∙ f)

-- ---- behind a number, which is read as x
module _ (limit : ℕ) (line : List ℕ) (p : ℕ) (x : Result NumberRead ItemError) (is : x ≡ number_from limit line p) where
  by_number_read : (y : Result NumberRead ItemError) → x ≡ y → (f : ℕ → ℕ → Answer) → then_by y f ≡ then_by (number_from limit line p) f
  by_number_read y h f = ap (λ (z : Result NumberRead ItemError). then_by z f) (sym h ∙ is)

  module _ (e : ItemError) (h : x ≡ Err e) where
    pub set_wrong : (k : Keyword) (which : ℕ) → Err e ≡ set_from k which limit line p
    unfolding set_from
    set_wrong k which = by_number_read (Err e) h (λ v q. item_ended (Set k which v) line q)

    pub pair_wrong : (k : Keyword) → limit ≡ limit_of k → Err e ≡ pair_from k line p
    unfolding pair_from
    pair_wrong k l = rw (sym l) (by_number_read (Err e) h (λ which q. set_from k which most line q))

    pub span_wrong : (k : Keyword) → limit ≡ most → Err e ≡ span_from k line p
    unfolding span_from
    span_wrong k l = rw (sym l) (by_number_read (Err e) h (λ first q. source_from k first line q))

  module _ (r : NumberRead) (h : x ≡ Ok r) where
    pub set_then : (k : Keyword) (which : ℕ) → item_ended (Set k which r.value) line r.end ≡ set_from k which limit line p
    unfolding set_from
    set_then k which = by_number_read (Ok r) h (λ v q. item_ended (Set k which v) line q)

    pub pair_then : (k : Keyword) → limit ≡ limit_of k → set_from k r.value most line r.end ≡ pair_from k line p
    unfolding pair_from
    pair_then k l = rw (sym l) (by_number_read (Ok r) h (λ which q. set_from k which most line q))

    pub span_then : (k : Keyword) → limit ≡ most → source_from k r.value line r.end ≡ span_from k line p
    unfolding span_from
    span_then k l = rw (sym l) (by_number_read (Ok r) h (λ first q. source_from k first line q))

-- ---- the line by its first word
module _ (line : List ℕ) {r : Place} (i : IsAt line r (first_word 0 line)) where
  pub item_none : r.start ≡ r.end → Ok Nothing ≡ item_in line
  unfolding item_in
  item_none h = rw (no_word i h)

  pub item_some :
      (r.start ≡ r.end → ⊥)
      → (k : Option Keyword)
      → k ≡ keyword_of (take (r.end - r.start) (drop r.start line))
      → item_by_keyword k r.start line r.end ≡ item_in line
  unfolding item_in
  item_some some k e =
      rw (a_word i some)
      (ap (λ (c : ℕ). item_by_keyword k c line r.end) i.start_is ∙ ap (item_by_keyword k (first_word 0 line).column line) i.end_is
      ∙ ap (λ (j : Option Keyword). item_by_keyword j (first_word 0 line).column line (behind (first_word 0 line))) (e ∙ ap keyword_of i.bytes_is))
