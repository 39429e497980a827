-- The names of the supported opcodes, as words of a line. Assumes nothing.
use Prim.Native.Nat.{ℕ, ◌<◌}
use native.Mathlib.Omega.{arith}
use mathlib.Core.Bool.{Bool, true, cond, ◌&&◌}
use mathlib.Core.Path.{◌≡◌}
use lib.Dec.{T, eqb, ltb, eqb→eq, ltb→lt}
use lib.ListN.{length}
use borrow.Author.Tests.{lt-ltb}
use Rattle.logic.specs.Tests.{up_to}
use Rattle.logic.proofs.Promises.{and_left, and_right, up_to_lem}
use Rattle.isa.specs.Classes.{kind_unsupported, kind, class_of, opcodes}
use Rattle.isa.proofs.Promises.{known_low}
use Rattle.hexadecimal.specs.Hex.{is_blank}
use Rattle.line_words.specs.Words.{is_in_word, place_from}
use Rattle.line_words.proofs.Promises.{all}
use Rattle.instruction_text.specs.Names.{names, name_of, opcode_of}
use Rattle.listing.specs.Meant.{is_not}

-- ---- no line feed, and no beginning of a comment
abbrev pub is_plain : ℕ → Bool
is_plain c = is_not 10 c && is_not 35 c

-- ---- a supported opcode: its name is a plain word that does not begin with a digit, and is the name of no opcode
-- before it
abbrev name_good : ℕ → Bool
name_good op =
    cond (ltb kind_unsupported (kind (class_of op)))
    (eqb (opcode_of (name_of op)) op && (all is_in_word (name_of op) && (all is_plain (name_of op) && ltb 0 (length (name_of op))))) true

names_good : T (up_to 53 name_good)
unfolding opcode_of place_from names name_of is_in_word is_blank opcodes class_of
names_good = tt

pub record GoodName (op : ℕ) : Type 0 where
  pub supported : kind_unsupported < kind (class_of op)
  pub back : opcode_of (name_of op) ≡ op
  pub word : T (all is_in_word (name_of op))
  pub plain : T (all is_plain (name_of op))
  pub some : 0 < length (name_of op)

pub good_name : (op : ℕ) → kind_unsupported < kind (class_of op) → GoodName op
good_name op h =
    let l = known_low op (omega arith) in
    let t = rw (lt-ltb kind_unsupported (kind (class_of op)) h) at (up_to_lem 53 name_good names_good op l) in
    let back = eqb (opcode_of (name_of op)) op in
    let word = all is_in_word (name_of op) in
    let plain = all is_plain (name_of op) in
    let some = ltb 0 (length (name_of op)) in
    let u = and_right back (word && (plain && some)) t in
    let v = and_right word (plain && some) u in
    record {
      supported = h;
      back = eqb→eq (opcode_of (name_of op)) op (and_left back (word && (plain && some)) t);
      word = and_left word (plain && some) u;
      plain = and_left plain some v;
      some = ltb→lt 0 (length (name_of op)) (and_right plain some v);
    }
