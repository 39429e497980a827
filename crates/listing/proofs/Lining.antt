-- A line read word by word, for the proofs of the functions of `reading`: one law for each way out. Assumes nothing.
use Rattle.std.specs.Prelude.{Result}
use Prim.Native.Nat.{ℕ, ◌+◌, ◌-◌, ◌^◌, ◌≤◌, ◌<◌}
use native.Mathlib.Omega.{arith}
use mathlib.Core.Bool.{Bool, true, false, cond}
use mathlib.Core.List.{List, [], ◌∷◌}
use mathlib.Core.Path.{◌≡◌, refl, sym, ap, ◌∙◌}
use lib.Dec.{T, eqb, ltb}
use lib.ListN.{length, take, drop, set, get_or, length-set}
use lib.Seq.{get_or-take, get_or-drop}
use borrow.Author.Tests.{eq-eqb, ne_eqb, lt-ltb, le-ltb, le-leb, lt-leb}
use Rattle.std.proofs.Common.{Ok, Err}
use Rattle.encoding.specs.BigEndian.{big_bytes}
use Rattle.encoding.specs.Written.{written_at}
use Rattle.logic.proofs.Promises.{up_to_lem}
use Rattle.encoding.proofs.Promises.{written_store, written_more, written_length}
use Rattle.logic.specs.Tests.{up_to}
use Rattle.isa.specs.Classes.{opcodes, class_of, kind, kind_unsupported}
use Rattle.isa.proofs.Promises.{known_low}
use Rattle.instruction_text.specs.Names.{opcode_of}
use Rattle.line_words.specs.Words.{Word, first_word, behind, IsAt}
use Rattle.line_words.specs.Numbers.{is_digit, number_in}
use Rattle.listing.specs.Numbers.{signed_number, is_width}
use Rattle.listing.specs.Line.{ListingLine, nothing, instruction, wrong, operands_of, line_ended, operand_number, from_operand, by_opcode, from_name, by_offset, read_line, line_bytes, read_answer, left_by_of, read_left, end_by}
use Rattle.line_words.specs.declared.Place.{Place}
use Rattle.line_words.specs.declared.numbers.NumberError.{NumberError}
use Rattle.line_words.specs.declared.numbers.NumberError.TheVariants.{Large, Not}
use Rattle.listing.specs.declared.reading.LineFault.TheVariants.{WrongOffset, NoName, UnknownName, NoOperand, NotNumber, TooLarge, Trailing}
use Rattle.listing.specs.declared.reading.Unread.{Unread}
use Rattle.listing.specs.declared.reading.Unread.TheVariants.{NoRoom}
use Rattle.line_words.proofs.Promises.{no_word, a_word}

-- ---- the line goes on behind a word as the code goes on
goes_on : {line : List ℕ} {r : Place} {w : Word} → IsAt line r w → (f : ℕ → List ℕ → ListingLine) → f r.end (drop r.end line) ≡ f (behind w) w.rest
goes_on {line} {r} {w} i f = ap (λ (j : ℕ). f j (drop r.end line)) i.end_is ∙ ap (f (behind w)) i.rest_is

-- ---- the answers at one word
module _ {line : List ℕ} {r : Place} (p : ℕ) (l : List ℕ) (i : IsAt line r (first_word p l)) where
  module _ (none : r.start ≡ r.end) where
    pub ends_here : (op count v : ℕ) → instruction op count v ≡ line_ended op count v p l
    unfolding line_ended
    ends_here op count v = rw (no_word i none)

    pub operand_none : (op count : ℕ) → wrong NoOperand r.start ≡ from_operand op count p l
    unfolding from_operand
    operand_none op count = rw (no_word i none) (ap (wrong NoOperand) i.start_is)

    pub name_none : wrong NoName r.start ≡ from_name p l
    unfolding from_name
    name_none = rw (no_word i none) (ap (wrong NoName) i.start_is)

  module _ (some : r.start ≡ r.end → ⊥) where
    pub ends_later : (op count v : ℕ) → wrong Trailing r.start ≡ line_ended op count v p l
    unfolding line_ended
    ends_later op count v = rw (a_word i some) (ap (wrong Trailing) i.start_is)

    -- an operand, which is the number x
    module _ (op count : ℕ) (x : Result ℕ NumberError) (is : x ≡ signed_number (take (r.end - r.start) (drop r.start line))) where
      by_operand : operand_number op count (first_word p l) x ≡ from_operand op count p l
      unfolding from_operand
      by_operand = rw (a_word i some) (ap (operand_number op count (first_word p l)) (is ∙ ap signed_number i.bytes_is))

      pub operand_not : x ≡ Err Not → wrong NotNumber r.start ≡ from_operand op count p l
      operand_not h = ap (wrong NotNumber) i.start_is ∙ ap (operand_number op count (first_word p l)) (sym h) ∙ by_operand

      pub operand_large : x ≡ Err Large → wrong TooLarge r.start ≡ from_operand op count p l
      operand_large h = ap (wrong TooLarge) i.start_is ∙ ap (operand_number op count (first_word p l)) (sym h) ∙ by_operand

      module _ (v : ℕ) (h : x ≡ Ok v) (b : Bool) (fits : b ≡ ltb v (256 ^ count)) where
        by_value : cond b (line_ended op count v (behind (first_word p l)) (first_word p l).rest) (wrong TooLarge (first_word p l).column) ≡ from_operand op count p l
        by_value = rw fits (ap (operand_number op count (first_word p l)) (sym h) ∙ by_operand)

        pub operand_wide : b ≡ false → wrong TooLarge r.start ≡ from_operand op count p l
        operand_wide f = ap (wrong TooLarge) i.start_is ∙ (rw f at by_value)

        pub operand_fits : b ≡ true → line_ended op count v r.end (drop r.end line) ≡ from_operand op count p l
        operand_fits t = goes_on i (line_ended op count v) ∙ (rw t at by_value)

    -- a name, which is that of op
    module _ (op : ℕ) (is : op ≡ opcode_of (take (r.end - r.start) (drop r.start line))) where
      by_name : by_opcode op (first_word p l) ≡ from_name p l
      unfolding from_name
      by_name = rw (a_word i some) (ap (λ (x : ℕ). by_opcode x (first_word p l)) (is ∙ ap opcode_of i.bytes_is))

      pub name_unknown : kind (class_of op) ≤ kind_unsupported → wrong UnknownName r.start ≡ from_name p l
      name_unknown h = ap (wrong UnknownName) i.start_is ∙ (rw (le-leb (kind (class_of op)) kind_unsupported h) at by_name)

      module _ (supported : kind_unsupported < kind (class_of op)) (count : ℕ) (row_is : count ≡ operands_of op) where
        by_row : cond (eqb count 0) (line_ended op 0 0 (behind (first_word p l)) (first_word p l).rest) (from_operand op count (behind (first_word p l)) (first_word p l).rest) ≡ from_name p l
        by_row = rw row_is (rw (lt-leb (kind (class_of op)) kind_unsupported supported) at by_name)

        pub name_alone : count ≡ 0 → line_ended op 0 0 r.end (drop r.end line) ≡ from_name p l
        name_alone h = goes_on i (line_ended op 0 0) ∙ (rw (eq-eqb count 0 h) at by_row)

        pub name_operand : (count ≡ 0 → ⊥) → from_operand op count r.end (drop r.end line) ≡ from_name p l
        name_operand h = goes_on i (from_operand op count) ∙ (rw (ne_eqb count 0 h) at by_row)

-- ---- the first word of a line
module _ {line : List ℕ} {r : Place} (at : ℕ) (i : IsAt line r (first_word 0 line)) where
  pub line_empty : r.start ≡ r.end → nothing ≡ read_line at line
  unfolding read_line
  line_empty h = rw (no_word i h)

  module _ (some : r.start ≡ r.end → ⊥) where
    -- its first character
    first_is : get_or line r.start 0 ≡ get_or (first_word 0 line).bytes 0 0
    first_is =
        let n : 0 < r.end - r.start = omega (arith, i.start_is, i.end_is, some) in
        ap (λ (j : ℕ). get_or line j 0) (omega arith) ∙ sym (get_or-drop r.start line 0 0) ∙ sym (get_or-take (r.end - r.start) (drop r.start line) 0 0 n)
        ∙ ap (λ (m : List ℕ). get_or m 0 0) i.bytes_is

    by_first : (b : Bool) → b ≡ is_digit 10 (get_or line r.start 0)
        → cond b (by_offset at (first_word 0 line) (number_in 10 (first_word 0 line).bytes)) (from_name 0 line) ≡ read_line at line
    unfolding read_line
    by_first b h = rw (a_word i some, h ∙ ap (is_digit 10) first_is)

    pub line_name : (b : Bool) → b ≡ is_digit 10 (get_or line r.start 0) → b ≡ false → from_name 0 line ≡ read_line at line
    line_name b h f = rw f at (by_first b h)

    module _ (b : Bool) (h : b ≡ is_digit 10 (get_or line r.start 0)) (t : b ≡ true)
        (x : Result ℕ NumberError) (is : x ≡ number_in 10 (take (r.end - r.start) (drop r.start line))) where
      by_offset_lem : by_offset at (first_word 0 line) x ≡ read_line at line
      by_offset_lem = ap (by_offset at (first_word 0 line)) (is ∙ ap (number_in 10) i.bytes_is) ∙ (rw t at (by_first b h))

      pub line_offset : (v : ℕ) → x ≡ Ok v → v ≡ at → from_name r.end (drop r.end line) ≡ read_line at line
      line_offset v e q =
          let z : by_offset at (first_word 0 line) (Ok v) ≡ read_line at line = ap (by_offset at (first_word 0 line)) (sym e) ∙ by_offset_lem in
          goes_on i from_name ∙ (rw (eq-eqb v at q) at z)

      pub line_other : (v : ℕ) → x ≡ Ok v → (v ≡ at → ⊥) → wrong WrongOffset r.start ≡ read_line at line
      line_other v e q =
          let z : by_offset at (first_word 0 line) (Ok v) ≡ read_line at line = ap (by_offset at (first_word 0 line)) (sym e) ∙ by_offset_lem in
          ap (wrong WrongOffset) i.start_is ∙ (rw (ne_eqb v at q) at z)

      pub line_err : (z : NumberError) → x ≡ Err z → wrong WrongOffset r.start ≡ read_line at line
      line_err z e = ap (wrong WrongOffset) i.start_is ∙ ap (by_offset at (first_word 0 line)) (sym e) ∙ by_offset_lem

-- ---- no opcode is as unknown as one of none
pub none_unknown : kind (class_of 53) ≤ kind_unsupported
unfolding class_of opcodes
none_unknown = omega arith

-- ---- operand bytes are 1, 2, 4 or 8
operands_width : T (up_to 53 (λ op. cond (eqb (operands_of op) 0) true (is_width (operands_of op))))
unfolding opcodes class_of is_width
operands_width = tt

pub width_of : (op count : ℕ) → kind_unsupported < kind (class_of op) → count ≡ operands_of op → (count ≡ 0 → ⊥) → T (is_width count)
width_of op count h e n =
    let t = up_to_lem 53 (λ op. cond (eqb (operands_of op) 0) true (is_width (operands_of op))) operands_width op (known_low op (omega (arith, h))) in
    rw e (rw (ne_eqb (operands_of op) 0 (λ z. n (e ∙ z))) at t)

-- ---- `store`
module _ (op count v at : ℕ) (o : List ℕ) where
  abbrev said : ListingLine
  said = instruction op count v

  pub buffer_full : length o ≤ at + count → (Err NoRoom ≡ read_answer said at o) × (o ≡ read_left said at o)
  buffer_full h = let e = le-ltb (at + count) (length o) h in (rw e, rw e)

  pub stored_length : (m : List ℕ) → m ≡ written_at (set o at op) (at + 1) (big_bytes count v) → length m ≡ length o
  stored_length m q = ap length q ∙ written_length (set o at op) (at + 1) (big_bytes count v) ∙ length-set o at op

  pub stored : at + count < length o → (m : List ℕ) → m ≡ written_at (set o at op) (at + 1) (big_bytes count v) → (Ok (count + 1) ≡ read_answer said at o) × (m ≡ read_left said at o)
  stored h m q =
      let e = lt-ltb (at + count) (length o) h in
      (rw e, rw e (q ∙ ap (λ (b : List ℕ). written_at b (at + 1) (big_bytes count v)) (written_store o at op) ∙ written_more o at (op ∷ []) (big_bytes count v)))

pub stored_end : (at count : ℕ) (x : Result ℕ Unread) → Ok (count + 1) ≡ x → at + 1 + count ≡ end_by at x
stored_end at count x q = let z : at + 1 + count ≡ at + (count + 1) = omega arith in z ∙ ap (end_by at) q

-- ---- the buffer that is left is as long as it was
length_by : (r : Result ℕ Unread) (l : ListingLine) (at : ℕ) (o : List ℕ) → length (left_by_of r l at o) ≡ length o
length_by (Ok n) l at o = written_length o at (line_bytes l)
length_by (Err u) l at o = refl

pub left_length : (l : ListingLine) (at : ℕ) (o : List ℕ) → length (read_left l at o) ≡ length o
left_length l at o = length_by (read_answer l at o) l at o

-- ---- `read_instruction`, by what the line says
module _ (l m : ListingLine) (at : ℕ) (o : List ℕ) (is : l ≡ m) where
  pub answer_by : read_answer l at o ≡ read_answer m at o
  answer_by = ap (λ (x : ListingLine). read_answer x at o) is

  pub left_by : read_left l at o ≡ read_left m at o
  left_by = ap (λ (x : ListingLine). read_left x at o) is
