-- How long the answers of `verify` are. Assumes nothing.
use Prim.Native.Nat.{ℕ, zero, suc, ◌+◌, ◌-◌, ◌*◌, ◌^◌, ◌≤◌, ◌<◌}
use Prim.Native.String.{String}
use native.Mathlib.Omega.{arith}
use native.Mathlib.Decide.{ℕ_discrete}
use mathlib.Core.Bool.{Bool, true, false, cond, ◌&&◌}
use mathlib.Core.List.{List, [], ◌∷◌, ◌++◌}
use mathlib.Core.Path.{◌≡◌, refl, ap, ◌∙◌}
use lib.Dec.{T, leb, eqb, leb→le}
use lib.ListN.{length, take, get_or, replicate, length-append, length-replicate, get_or-replicate, get_or-eq_default}
use lib.Seq.{take_all, length-take-le}
use borrow.Author.Tests.{lt-ltb, le-ltb}
use Rattle.encoding.specs.Ranges.{AllBytes}
use Rattle.logic.proofs.Promises.{cases, and_left, and_right}
use Rattle.hexadecimal.specs.Hex.{pair_of}
use Rattle.phrases.specs.Refused.{refusals, refusal_of, refused_at}
use Rattle.text_buffer.specs.Text.{bytes_of, Appends}
use Rattle.text_buffer.proofs.Promises.{text_of, decimal_length}
use Rattle.sizes.specs.Sizes.{expression_most, stack_cells}
use Rattle.refusals.specs.Refusal.{Refusal}
use Rattle.refusals.specs.Numbers.{expression_size}
use Rattle.isa.specs.Classes.{class_of, kind, kind_unknown}
use Rattle.isa.specs.Decode.{next}
use Rattle.isa.specs.Starts.{starts_from}
use Rattle.isa.specs.Walk.{Walk}
use Rattle.isa.proofs.Promises.{by_starts, from_end, from_next, start_in, walk_last}
use Rattle.verdict.specs.Acceptance.{Accepted, Shows, two_heights, cells_lack, cells_exceed, walk_leaves, Justified, of_size, of_pass1, of_pass2, of_pass3}
use Rattle.verdict.specs.Pass3.{unreached}
use Rattle.verdict.specs.Verdict.{Verdict, accepted, refused, verdict}
use Rattle.verdict.proofs.Promises.{means, accepted_means, refused_number, ready, longest_length}
use Rattle.heights.specs.Arrivals.{ArrivalsBy}
use Rattle.instruction_text.specs.Names.{name_of}
use Rattle.text_buffer.specs.Decimal.{decimal}
use Rattle.instruction_text.specs.Text.{text_at, is_instruction, plain_at}
use Rattle.instruction_text.proofs.Promises.{text_length, plain_length, name_length}
use Rattle.phrases.specs.Numbers.{count_text}
use Rattle.phrases.proofs.Promises.{count_length}
use Rattle.verify_lines.specs.Verdict.{accepted_text, opcode_text, there_text, instruction_of, refused_line, verdict_text, height_text}
use Rattle.verify_lines.specs.Listed.{gap_text, beside_text, row_text, is_listed_of, listed_text, is_accepted_of, answer_text}
use Rattle.verify_lines.proofs.Rows.{listed, rows_from, rows_all, rows_next, rows_end}

chosen : (b : Bool) (m : ℕ) (x y : List ℕ) → length x ≤ m → length y ≤ m → length (cond b x y) ≤ m
chosen true m x y h g = h
chosen false m x y h g = g

-- ---- the instruction of a refusal
bracketed : (l : List ℕ) → length (bytes_of " (" ++ l ++ bytes_of ")") ≡ 3 + length l
bracketed l = omega (arith, length-append (bytes_of " (" ++ l) (bytes_of ")"), length-append (bytes_of " (") l)

opcode_length : (op : ℕ) → length (opcode_text op) ≤ 66
unfolding opcode_text
opcode_length op =
    chosen (eqb (kind (class_of op)) kind_unknown) 66 (bytes_of " (opcode " ++ pair_of op ++ bytes_of ")") (bytes_of " (" ++ name_of op ++ bytes_of ")") (omega arith)
    (omega (arith, bracketed (name_of op), name_length op))

-- ---- the verdict
module _ (e : List ℕ) (low : AllBytes e) where
  instruction_length : (r : Refusal) → r.offset < 2 ^ 64 → length (instruction_of e r) ≤ 66
  unfolding there_text instruction_of
  instruction_length r h =
      let k = r.offset in
      chosen (eqb r.number expression_size) 66 [] (there_text e k) (omega arith)
      (chosen (leb (length e) k) 66 [] _ (omega arith)
      (chosen (is_instruction e k) 66 (bytes_of " (" ++ plain_at e k ++ bytes_of ")") (opcode_text (get_or e k 0))
      (omega (arith, bracketed (plain_at e k), plain_length e low k h)) (opcode_length (get_or e k 0))))

abbrev all_short : ℕ → List String → Bool
all_short m [] = true
all_short m (s ∷ l) = leb (length (bytes_of s)) m && all_short m l

words_short : (m : ℕ) (l : List String) (d : String) → T (all_short m l) → length (bytes_of d) ≤ m → (n : ℕ) → length (bytes_of (get_or l n d)) ≤ m
words_short m [] d t h n = h
words_short m (s ∷ l) d t h zero = leb→le (length (bytes_of s)) m (and_left (leb (length (bytes_of s)) m) (all_short m l) t)
words_short m (s ∷ l) d t h (suc n) = words_short m l d (and_right (leb (length (bytes_of s)) m) (all_short m l) t) h n

refusal_length : (r : ℕ) → length (bytes_of (refusal_of r)) ≤ 48
refusal_length r = words_short 48 refusals "unknown refusal number" tt (omega arith) r

refused_at_length : (r k : ℕ) → r < 2 ^ 64 → k < 2 ^ 64 → length (refused_at r k) ≤ 59
unfolding refused_at
refused_at_length r k h g =
    let a = bytes_of "refused " ++ decimal r in
    let b = a ++ bytes_of " at offset " in
    omega (
      arith,
      decimal_length r h,
      decimal_length k g,
      length-append (bytes_of "refused ") (decimal r),
      length-append a (bytes_of " at offset "),
      length-append b (decimal k),
    )

refused_length : (e : List ℕ) → AllBytes e → (r : Refusal) → r.number < 2 ^ 64 → r.offset < 2 ^ 64 → length (refused_line e r) ≤ 176
unfolding refused_line
refused_length e low r h g =
    let start = refused_at r.number r.offset in
    let words = bytes_of (refusal_of r.number) in
    let a = start ++ instruction_of e r in
    let b = a ++ bytes_of ": " in
    let d = b ++ words in
    omega (
      arith,
      refused_at_length r.number r.offset h g,
      instruction_length e low r g,
      refusal_length r.number,
      length-append start (instruction_of e r),
      length-append a (bytes_of ": "),
      length-append b words,
      length-append d (bytes_of "\n"),
    )

accepted_length : (n g l : ℕ) → n < 2 ^ 64 → g < 2 ^ 64 → l < 2 ^ 64 → length (accepted_text n g l) ≤ 117
unfolding accepted_text
accepted_length n g l hn hg hl =
    let c = count_text n (bytes_of "instruction") in
    let a = bytes_of "accepted: " ++ c in
    let b = a ++ bytes_of ", greatest height " in
    let d = b ++ decimal g in
    let f = d ++ bytes_of ", longest walk " in
    omega (
      arith,
      count_length n (bytes_of "instruction") hn,
      decimal_length g hg,
      decimal_length l hl,
      length-append (bytes_of "accepted: ") c,
      length-append a (bytes_of ", greatest height "),
      length-append b (decimal g),
      length-append d (bytes_of ", longest walk "),
      length-append f (decimal l),
      length-append (f ++ decimal l) (bytes_of "\n"),
    )

-- the numbers of an acceptance: at most as many instructions as bytes, at most 64 cells, and no walk goes back
starts_length : (e : List ℕ) (i : ℕ) → length (starts_from e i) ≤ length e - i
starts_length e =
    by_starts e (λ i. length (starts_from e i) ≤ length e - i) (λ i h. omega (arith, ap length (from_end e i h)))
    (λ i h p. omega (arith, p, ap length (from_next e i h)))

module _ (e : List ℕ) {n g l : ℕ} (a : Accepted e n g l) where
  numbers_low : (n ≤ expression_most) × (g ≤ stack_cells) × (l ≤ expression_most)
  numbers_low =
      let r = a.height.reached in
      (omega (arith, a.count, starts_length e 0, a.acceptable.sized.short), omega (arith, r.4, a.acceptable.walks.room r.3 (start_in e r.1 (walk_last r.3))), omega (arith, longest_length e a, a.acceptable.sized.short))

-- the offset of a refusal
module _ (e : List ℕ) where
  walked : {w : List ℕ} {k u : ℕ} → Walk e 0 0 w k u → k ≤ length e
  walked {w} {k} x = omega (arith, start_in e k (walk_last x))

  shown_inside : {k r : ℕ} {lists : List (List ℕ)} → Shows e k r lists → k ≤ length e
  shown_inside (two_heights p l x y d) = walked x
  shown_inside (cells_lack p l x d) = walked x
  shown_inside (cells_exceed p l x c d) = walked x
  shown_inside (walk_leaves p l x c h t d) = walked x

  refused_inside : {r : Refusal} → Justified e r → r.offset ≤ length e
  refused_inside (of_size p s) = rw p (omega arith)
  refused_inside (of_pass1 {r} {k} p z x) = rw p (omega (arith, start_in e k x.start))
  refused_inside (of_pass2 {r} {k} p z d x) = rw p (omega (arith, start_in e k x.start))
  refused_inside (of_pass3 p z d t b o f) = rw p (shown_inside b.1)

module _ (e : List ℕ) (low : AllBytes e) (size : length e < 2 ^ 64) where
  verdict_length : (v : Verdict) → verdict e ≡ v → length (verdict_text e v) ≤ 176
  unfolding verdict_text
  verdict_length (accepted n g l) q =
      let b = numbers_low e (accepted_means e q) in
      omega (arith, accepted_length n g l (omega (arith, b.0)) (omega (arith, b.1)) (omega (arith, b.2)))
  verdict_length (refused r) q =
      refused_length e low r (omega (arith, (refused_number e q).1)) (omega (arith, refused_inside e (rw q at (means e)), size))

-- ---- a row
height_length : (h : ℕ) → h ≤ unreached → length (height_text h) ≤ 30
unfolding height_text
height_length h b =
    chosen (eqb h unreached) 30 (bytes_of "# not reached\n") (bytes_of "# height " ++ decimal h ++ bytes_of "\n") (omega arith)
    (omega (arith, decimal_length h (omega arith), length-append (bytes_of "# height ") (decimal h), length-append (bytes_of "# height " ++ decimal h) (bytes_of "\n")))

gap_length : (n : ℕ) → n ≤ 62 → n + length (gap_text n) ≤ 63
unfolding gap_text
gap_length n h =
    cases n 35 (λ l. rw (lt-ltb n 35 l) (omega (arith, length-replicate {A = ℕ} (36 - n) 32))) (λ g. rw (le-ltb n 35 g) (omega arith))

beside_length : (l : List ℕ) (h : ℕ) → length l < 64 → h ≤ unreached → length (beside_text l h) ≤ 93
unfolding beside_text
beside_length l h s b =
    let n = length l - 1 in
    omega (
      arith,
      length-take-le n l (omega arith),
      gap_length n (omega arith),
      height_length h b,
      length-append (take n l) (gap_text n),
      length-append (take n l ++ gap_text n) (height_text h),
    )

-- the rows: one an offset at most, of the 1,024
module _ (e : List ℕ) (low : AllBytes e) (hs : List ℕ) (cells : (j : ℕ) → get_or hs j 0 ≤ unreached) (a : Bool) where
  row_length : (k : ℕ) → k < 2 ^ 64 → length (row_text e a (get_or hs k 0) k) ≤ 93
  unfolding row_text
  row_length k h =
      let t = text_length e low k h in
      chosen a 93 (beside_text (text_at e k) (get_or hs k 0)) (text_at e k) (beside_length (text_at e k) (get_or hs k 0) t (cells k)) (omega (arith, t))

  turn_length : (i : ℕ) (b : Bool) → is_listed_of e i ≡ b → (b ≡ true → length (rows_from e hs a (next e i)) ≤ 93 * (expression_most - next e i))
      → length (rows_from e hs a i) ≤ 93 * (expression_most - i)
  turn_length i true q p =
      let r = row_text e a (get_or hs i 0) i in
      let l = (listed e i q).low in
      omega (arith, ap length (rows_next e hs a i q), length-append r (rows_from e hs a (next e i)), row_length i (omega (arith, l)), p refl, l)
  turn_length i false q p = omega (arith, ap length (rows_end e hs a i q))

  rows_length : (i : ℕ) → length (rows_from e hs a i) ≤ 93 * (expression_most - i)
  rows_length =
      by_starts e (λ i. length (rows_from e hs a i) ≤ 93 * (expression_most - i))
      (λ i h. turn_length i (is_listed_of e i) refl (λ q. absurd (omega (arith, (listed e i q).inside))))
      (λ i h p. turn_length i (is_listed_of e i) refl (λ q. p))

-- ---- the whole answer
cells_low : (e : List ℕ) (v : Verdict) → verdict e ≡ v → (hs : List ℕ) → ArrivalsBy e v hs → (j : ℕ) → get_or hs j 0 ≤ unreached
cells_low e (accepted n g l) q hs r j =
    cases j expression_most
    (λ h. elim (ℕ_discrete (get_or hs j 0) unreached) [
      | yes p ↦ omega arith
      | no p ↦ omega (arith, (ready e (accepted_means e q) (r.reached j h p).1).low)
    ])
    (λ h. let o : length hs ≤ j = omega (arith, r.long) in omega (arith, get_or-eq_default hs 0 o))
cells_low e (refused x) q hs r j =
    rw r
    (cases j expression_most
    (λ h. omega (arith, get_or-replicate {A = ℕ} expression_most j unreached 0 h))
    (λ h. let o : length (replicate expression_most unreached) ≤ j = omega (arith, length-replicate {A = ℕ} expression_most unreached) in omega (arith, get_or-eq_default (replicate expression_most unreached) 0 o)))

module _ (e : List ℕ) (low : AllBytes e) (size : length e < 2 ^ 64) (hs : List ℕ) (r : ArrivalsBy e (verdict e) hs) (listed : Bool) where
  pub answer_length : length (answer_text e (verdict e) hs listed) ≤ 98304
  unfolding answer_text
  answer_length =
      let v = verdict_text e (verdict e) in
      let a = is_accepted_of (verdict e) in
      let l = listed_text e hs a in
      let n : length l ≤ 95232 = omega (arith, ap length (rows_all e hs a), rows_length e low hs (cells_low e (verdict e) refl hs r) a 0) in
      let c = chosen listed 95232 l [] n (omega arith) in
      omega (arith, verdict_length e low size (verdict e) refl, c, length-append v (cond listed l []))

  pub answer_whole : (b b' : List ℕ) (n : ℕ) → 98304 ≤ length b' → Appends b 0 (answer_text e (verdict e) hs listed) b' n
      → take n b' ≡ answer_text e (verdict e) hs listed
  answer_whole b b' n h p =
      let l = answer_text e (verdict e) hs listed in
      let t = text_of p in
      let s : n ≡ length l = cases n (length b') (λ g. t.all g) (λ g. omega (arith, t.most, answer_length)) in
      t.same ∙ take_all n l (omega (arith, s))
