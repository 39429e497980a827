-- The text of an instruction appended part by part, for the proofs of the functions of `writing`. Assumes nothing.
use Prim.Native.Nat.{ℕ, ◌+◌, ◌-◌, ◌^◌, ◌≤◌, ◌<◌}
use native.Mathlib.Nat.{pow-le-pow_right}
use native.Mathlib.Omega.{arith}
use mathlib.Core.Bool.{Bool, true, false, cond, ◌&&◌}
use mathlib.Core.List.{List, [], ◌∷◌, ◌++◌, append_assoc}
use mathlib.Core.Path.{◌≡◌, refl, sym, ap, ◌∙◌}
use lib.Dec.{ltb, leb, lit<}
use lib.ListN.{length, take, get_or, replicate, length-append, length-replicate}
use lib.Seq.{take_all}
use borrow.Author.Tests.{eq-eqb, ne_eqb, lt-ltb, le-ltb, le-leb, lt-leb, ltb-true, leb-true}
use Rattle.std.proofs.Common.{Result, Ok, Err, ◌⊎◌, inl, inr}
use Rattle.text_buffer.specs.Decimal.{decimal}
use Rattle.text_buffer.specs.Text.{Text}
use Rattle.encoding.specs.Ranges.{AllBytes}
use Rattle.encoding.specs.Written.{written_at}
use Rattle.encoding.proofs.Promises.{big_below}
use Rattle.logic.proofs.Promises.{no_true, cases}
use Rattle.isa.specs.Classes.{kind_unsupported}
use Rattle.isa.specs.Joining.Rows.{kind_of}
use Rattle.isa.specs.declared.Kind.{Kind}
use Rattle.isa.specs.declared.Kind.TheVariants.{Unknown, Unsupported, Ext, Variable, Plain, Pick, Goto, IfGoto, End}
use Rattle.isa.specs.Decode.{kind_at, operand_bytes, operand, next}
use Rattle.isa.proofs.Promises.{operands_most}
use Rattle.text_buffer.proofs.Promises.{decimal_some, decimal_most, decimal_least, decimal_length}
use Rattle.phrases.specs.Numbers.{signed_text}
use Rattle.phrases.proofs.Promises.{signed_length}
use Rattle.instruction_text.specs.Names.{name_of}
use Rattle.instruction_text.specs.Text.{aligned, operand_text, text_of, text_at, named_at, is_instruction, plain_at, written_answer, written_left}
use Rattle.instruction_text.specs.declared.writing.Unwritten.{Unwritten}
use Rattle.instruction_text.specs.declared.writing.Unwritten.TheVariants.{NoInstruction, NoRoom}
use Rattle.instruction_text.proofs.Opcodes.{name_length}

-- ---- an offset, in three columns
pub aligned_by : (v n : ℕ) → 3 - length (decimal v) ≡ n → replicate n 32 ++ decimal v ≡ aligned (decimal v)
unfolding aligned
aligned_by v n e = ap (λ (j : ℕ). replicate j 32 ++ decimal v) (sym e)

pub aligned_one : (v : ℕ) → v < 10 → (32 ∷ 32 ∷ []) ++ decimal v ≡ aligned (decimal v)
aligned_one v h = aligned_by v 2 (omega (arith, decimal_some v, decimal_most v 0 h))

pub aligned_two : (v : ℕ) → 10 ≤ v → v < 100 → (32 ∷ []) ++ decimal v ≡ aligned (decimal v)
aligned_two v g h = aligned_by v 1 (omega (arith, decimal_least v 1 g, decimal_most v 1 h))

pub aligned_more : (v : ℕ) → 100 ≤ v → decimal v ≡ aligned (decimal v)
aligned_more v g = aligned_by v 0 (omega (arith, decimal_least v 2 g))

-- ---- an operand
pub operand_none : (count v : ℕ) → count ≡ 0 → [] ≡ operand_text count v
unfolding operand_text
operand_none count v h = rw (eq-eqb count 0 h)

pub operand_some : (count v : ℕ) → (count ≡ 0 → ⊥) → (32 ∷ []) ++ signed_text v ≡ operand_text count v
unfolding operand_text
operand_some count v h = rw (ne_eqb count 0 h)

-- ---- an instruction
ltb_leb : (a b c d : ℕ) → (a < b → c ≤ d) → (b ≤ a → d < c) → ltb a b ≡ leb c d
ltb_leb a b c d f g =
    cases a b (λ h. lt-ltb a b h ∙ sym (le-leb c d (f h))) (λ h. le-ltb a b h ∙ sym (lt-leb c d (g h)))

module _ (e : List ℕ) (k : ℕ) where
  pub past_end : length e ≤ k → false ≡ is_instruction e k
  unfolding is_instruction
  past_end h = rw (le-ltb k (length e) h)

  module _ (within : k < length e) where
    pub not_supported : kind_at e k ≤ kind_unsupported → false ≡ is_instruction e k
    unfolding is_instruction
    not_supported h = rw (lt-ltb k (length e) within, le-ltb kind_unsupported (kind_at e k) h)

    pub by_length : kind_unsupported < kind_at e k → (count : ℕ) → count ≡ operand_bytes e k → ltb count (length e - k) ≡ is_instruction e k
    unfolding is_instruction
    by_length h count is = rw (lt-ltb k (length e) within, lt-ltb kind_unsupported (kind_at e k) h, is) (ltb_leb (operand_bytes e k) (length e - k) (next e k) (length e) (λ l. omega arith) (λ l. omega arith))

-- ---- kinds: those that are not supported, and the others
pub kind_low : (k : Kind) → (k ≡ Unknown) ⊎ (k ≡ Unsupported) → kind_of k ≤ kind_unsupported
kind_low k (inl e) = rw e (omega arith)
kind_low k (inr e) = rw e (omega arith)

pub kind_high : (k : Kind) → (k ≡ Unknown → ⊥) → (k ≡ Unsupported → ⊥) → kind_unsupported < kind_of k
kind_high Unknown u v = absurd (u refl)
kind_high Unsupported u v = absurd (v refl)
kind_high Ext u v = omega arith
kind_high Variable u v = omega arith
kind_high Plain u v = omega arith
kind_high Pick u v = omega arith
kind_high Goto u v = omega arith
kind_high IfGoto u v = omega arith
kind_high End u v = omega arith

-- what it is
pub record Instructed (e : List ℕ) (k : ℕ) : Type 0 where
  pub inside : k < length e
  pub supported : kind_unsupported < kind_at e k
  pub whole : next e k ≤ length e

three : (a b c : Bool) → a && b && c ≡ true → (a ≡ true) × (b ≡ true) × (c ≡ true)
three true true true q = (refl, refl, refl)
three true true false q = no_true q
three true false c q = no_true q
three false b c q = no_true q

pub instructed : (e : List ℕ) (k : ℕ) → is_instruction e k ≡ true → Instructed e k
unfolding is_instruction
instructed e k q =
    let t = three (ltb k (length e)) (ltb kind_unsupported (kind_at e k)) (leb (next e k) (length e)) q in
    record {
      inside = ltb-true k (length e) t.0;
      supported = ltb-true kind_unsupported (kind_at e k) t.1;
      whole = leb-true (next e k) (length e) t.2;
    }

-- ---- the parts of a text
pub named_parts : (e : List ℕ) (k op count v : ℕ) → op ≡ get_or e k 0 → count ≡ operand_bytes e k → v ≡ operand e k
    → name_of op ++ operand_text count v ≡ named_at e k
unfolding named_at
named_parts e k op count v o n x =
    ap (λ (i : ℕ). name_of i ++ operand_text count v) o
    ∙ ap (λ (i : ℕ). name_of (get_or e k 0) ++ operand_text i v) n
    ∙ ap (λ (i : ℕ). name_of (get_or e k 0) ++ operand_text (operand_bytes e k) i) x

-- what stands before the line feed
abbrev pub row_text : ℕ → ℕ → ℕ → ℕ → List ℕ
row_text at op count v = ((aligned (decimal at) ++ (32 ∷ 32 ∷ [])) ++ name_of op) ++ operand_text count v

pub row_parts : (at op count v : ℕ) (l : List ℕ)
    → row_text at op count v ++ l ≡ aligned (decimal at) ++ ((32 ∷ 32 ∷ []) ++ (name_of op ++ (operand_text count v ++ l)))
row_parts at op count v l =
    let a = aligned (decimal at) in
    let s : List ℕ = 32 ∷ 32 ∷ [] in
    let p = operand_text count v in
    append_assoc ((a ++ s) ++ name_of op) p l ∙ append_assoc (a ++ s) (name_of op) (p ++ l) ∙ append_assoc a s (name_of op ++ (p ++ l))

pub text_parts : (e : List ℕ) (k : ℕ) → row_text k (get_or e k 0) (operand_bytes e k) (operand e k) ++ (10 ∷ []) ≡ text_at e k
unfolding text_at text_of
text_parts e k = row_parts k (get_or e k 0) (operand_bytes e k) (operand e k) (10 ∷ [])

pub text_named : (e : List ℕ) (k : ℕ) → ((aligned (decimal k) ++ (32 ∷ 32 ∷ [])) ++ named_at e k) ++ (10 ∷ []) ≡ text_at e k
unfolding named_at
text_named e k =
    let f = aligned (decimal k) ++ (32 ∷ 32 ∷ []) in
    let m = name_of (get_or e k 0) in
    let p = operand_text (operand_bytes e k) (operand e k) in
    ap (λ (t : List ℕ). t ++ (10 ∷ [])) (sym (append_assoc f m p)) ∙ text_parts e k

-- ---- for any offset
pub plain_none : (e : List ℕ) (k : ℕ) → is_instruction e k ≡ false → [] ≡ plain_at e k
unfolding plain_at
plain_none e k q = rw q

pub plain_some : (e : List ℕ) (k : ℕ) → is_instruction e k ≡ true → named_at e k ≡ plain_at e k
unfolding plain_at
plain_some e k q = rw q

-- ---- a text is short
aligned_length : (v : ℕ) → v < 2 ^ 64 → length (aligned (decimal v)) ≤ 23
unfolding aligned
aligned_length v h =
    omega (arith, decimal_length v h, length-append (replicate (3 - length (decimal v)) 32) (decimal v), length-replicate {A = ℕ} (3 - length (decimal v)) 32)

operand_length : (count v : ℕ) → v < 2 ^ 64 → length (operand_text count v) ≤ 22
operand_length count v h =
    cases 0 count
    (λ g. omega (arith, ap length (operand_some count v (λ z. omega arith)), signed_length v h))
    (λ l. omega (arith, ap length (operand_none count v (omega arith))))

pub text_length : (e : List ℕ) → AllBytes e → (k : ℕ) → k < 2 ^ 64 → length (text_at e k) < 64
unfolding operand text_at text_of
text_length e low k h =
    let p = pow-le-pow_right (lit< {m = 0} {n = 256} tt) (operands_most (get_or e k 0)) in
    let l : operand e k < 2 ^ 64 = omega (arith, big_below e (k + 1) (operand_bytes e k) low, p) in
    let n = name_of (get_or e k 0) in
    let q = operand_text (operand_bytes e k) (operand e k) in
    omega (
      arith,
      aligned_length k h,
      operand_length (operand_bytes e k) (operand e k) l,
      name_length (get_or e k 0),
      length-append (aligned (decimal k)) ((32 ∷ 32 ∷ []) ++ (n ++ (q ++ (10 ∷ [])))),
      length-append n (q ++ (10 ∷ [])),
      length-append q (10 ∷ []),
    )

text_parts_length : (e : List ℕ) (k : ℕ) → length (named_at e k) < length (text_at e k)
text_parts_length e k =
    let f = aligned (decimal k) ++ (32 ∷ 32 ∷ []) in
    omega (arith, ap length (text_named e k), length-append (f ++ named_at e k) (10 ∷ []), length-append f (named_at e k))

pub text_some : (e : List ℕ) (k : ℕ) → 0 < length (text_at e k)
text_some e k = omega (arith, text_parts_length e k)

pub plain_length : (e : List ℕ) → AllBytes e → (k : ℕ) → k < 2 ^ 64 → length (plain_at e k) < 64
unfolding plain_at
plain_length e low k h =
    elim (is_instruction e k) as (λ (b : Bool). length (cond b (named_at e k) []) < 64) [
      | true ↦ omega (arith, text_length e low k h, text_parts_length e k)
      | false ↦ omega arith
    ]

-- ---- `write_instruction`
pub record Writes (e : List ℕ) (k : ℕ) (o : List ℕ) (r : Result ℕ Unwritten) (o' : List ℕ) : Type 0 where
  pub answer : r ≡ written_answer e k o
  pub text : o' ≡ written_left e k o

module _ (e : List ℕ) (k : ℕ) (o : List ℕ) where
  pub writes_none : is_instruction e k ≡ false → Writes e k o (Err NoInstruction) o
  unfolding written_left written_answer
  writes_none q = record { answer = rw q; text = rw q }

  module _ (q : is_instruction e k ≡ true) (line : List ℕ) (r : ℕ) (x : Text line r (text_at e k)) (room : length (text_at e k) < length line) where
    all_of_it : r ≡ length (text_at e k)
    all_of_it = x.all (omega (arith, x.most))

    pub writes_no_room : length o < r → Writes e k o (Err NoRoom) o
    unfolding written_left written_answer
    writes_no_room h =
        let l = lt-leb (length (text_at e k)) (length o) (omega (arith, all_of_it)) in
        record { answer = rw (q, l); text = rw (q, l) }

    pub writes_text : r ≤ length o → (o' : List ℕ) → o' ≡ written_at o 0 (take r line) → Writes e k o (Ok r) o'
    unfolding written_left written_answer
    writes_text h o' w =
        let a = all_of_it in
        let l = le-leb (length (text_at e k)) (length o) (omega (arith, a)) in
        let m : take r line ≡ text_at e k = x.same ∙ take_all r (text_at e k) (omega (arith, a)) in
        record { answer = rw (q, l) (ap Ok a); text = rw (q, l) (w ∙ ap (written_at o 0) m) }
