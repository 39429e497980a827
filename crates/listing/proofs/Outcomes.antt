-- What `read_listing` answers and leaves, where the text has no fault and the buffer has room; and what its answers
-- tell. Assumes nothing.
use Prim.Native.Nat.{ℕ, ◌+◌, ◌≤◌}
use native.Mathlib.Omega.{arith}
use mathlib.Core.Bool.{Bool, true, false, cond}
use mathlib.Core.List.{List, [], ◌∷◌, ◌++◌}
use mathlib.Core.Path.{◌≡◌, refl, sym, ap, subst, ◌∙◌}
use lib.Dec.{ltb}
use lib.ListN.{length, take, length-append}
use borrow.Author.Tests.{lt-ltb}
use Rattle.std.proofs.Common.{None, Some, Result, Ok, Err}
use Rattle.encoding.specs.Written.{written_at}
use Rattle.encoding.proofs.Promises.{written_nothing, written_more, written_length, written_read, length_big}
use Rattle.listing.specs.Line.{ListingLine, line_bytes, read_answer, read_left}
use Rattle.listing.specs.Meant.{meant}
use Rattle.listing.specs.Listing.{Lines, bytes, fault, after_bytes, then_lines, read_lines, lines_of, read_text}
use Rattle.listing.specs.Whole.{ListingOutcome, wrong_line, after_line, outcome_from, outcome}
use Rattle.listing.specs.declared.reading.LineFault.{LineFault}
use Rattle.listing.specs.declared.reading.Unread.{Unread}
use Rattle.listing.specs.declared.reading.Unread.TheVariants.{NoRoom, Wrong}
use Rattle.listing.specs.declared.whole.ListingFault.{ListingFault}

-- the bytes b are written from offset i on
abbrev written : ℕ → List ℕ → List ℕ → ListingOutcome
written i o b = record { answer = Ok (i + length b); left = written_at o i b }

written_none : (i : ℕ) (o : List ℕ) → record { answer = Ok i; left = o } ≡ written i o []
written_none i o =
    let z : i ≡ i + 0 = omega arith in
    ap (λ (k : ℕ). record { answer = Ok k; left = o }) z ∙ ap (λ (l : List ℕ). record { answer = Ok (i + 0); left = l }) (sym (written_nothing o i))

written_then : (i : ℕ) (o d m : List ℕ) → written (i + length d) (written_at o i d) m ≡ written i o (d ++ m)
written_then i o d m =
    let z : i + length d + length m ≡ i + length (d ++ m) = omega (arith, length-append d m) in
    ap (λ (k : ℕ). record { answer = Ok k; left = written_at (written_at o i d) (i + length d) m }) z
    ∙ ap (λ (l : List ℕ). record { answer = Ok (i + length (d ++ m)); left = l }) (written_more o i d m)

-- lines without a fault
abbrev Right : List (List ℕ) → Type 0
Right ls = (n i : ℕ) (o b : List ℕ) → read_lines n i ls ≡ bytes b → i + length b ≤ length o → outcome_from n i o ls ≡ written i o b

-- the lines behind one with the bytes d
module _ (ls : List (List ℕ)) (rest : Right ls) (n i : ℕ) (o : List ℕ) (d : List ℕ) (k : ℕ) (size : k ≡ length d) where
  right_behind : (x : Lines) → read_lines (n + 1) (i + length d) ls ≡ x → (b : List ℕ) → after_bytes d x ≡ bytes b → i + length b ≤ length o
      → outcome_from (n + 1) (i + k) (written_at o i d) ls ≡ written i o b
  right_behind (bytes m) e b q h =
      let w : d ++ m ≡ b = cc in
      let l = written_at o i d in
      let g = rest (n + 1) (i + length d) l m e (omega (arith, h, written_length o i d, length-append d m, ap length w)) in
      ap (λ (j : ℕ). outcome_from (n + 1) (i + j) l ls) size ∙ g ∙ written_then i o d m ∙ ap (written i o) w
  right_behind (fault m f c) e b q h = absurd (let z : ◌≡◌ {A = ℕ} 0 1 = cc in omega arith)

  pub after_right : (b : List ℕ) → after_bytes d (read_lines (n + 1) (i + length d) ls) ≡ bytes b → i + length b ≤ length o
      → outcome_from (n + 1) (i + k) (written_at o i d) ls ≡ written i o b
  after_right = right_behind (read_lines (n + 1) (i + length d) ls) refl

at_least : (d : List ℕ) (x : Lines) (b : List ℕ) → after_bytes d x ≡ bytes b → length d ≤ length b
at_least d (bytes m) b q = let w : d ++ m ≡ b = cc in omega (arith, length-append d m, ap length w)
at_least d (fault n f c) b q = absurd (let z : ◌≡◌ {A = ℕ} 0 1 = cc in omega arith)

-- a line that says l, and the lines behind it
right_line : (l : ListingLine) (ls : List (List ℕ)) → Right ls → (n i : ℕ) (o b : List ℕ)
    → then_lines n l (λ d. after_bytes d (read_lines (n + 1) (i + length d) ls)) ≡ bytes b → i + length b ≤ length o
    → after_line n (read_left l i o) (read_answer l i o) (λ k. outcome_from (n + 1) (i + k) (read_left l i o) ls) ≡ written i o b
right_line (Ok None) ls rest n i o b q h = after_right ls rest n i o [] 0 refl b q h
right_line (Ok (Some s)) ls rest n i o b q h =
    let d = line_bytes (Ok (Some s)) in
    let size : s.count + 1 ≡ length d = omega (arith, length_big s.count s.operand) in
    let room = lt-ltb (i + s.count) (length o) (omega (arith, h, size, at_least d (read_lines (n + 1) (i + length d) ls) b q)) in
    rw room (after_right ls rest n i o d (s.count + 1) size b q h)
right_line (Err f) ls rest n i o b q h = absurd (let z : ◌≡◌ {A = ℕ} 0 1 = cc in omega arith)

right_lines : (ls : List (List ℕ)) → Right ls
unfolding read_lines outcome_from
right_lines [] n i o b q h = let w : [] ≡ b = cc in written_none i o ∙ ap (written i o) w
right_lines (l ∷ ls) n i o b q h = right_line (meant i l) ls (right_lines ls) n i o b q h

pub text_right : (t o b : List ℕ) → read_text t ≡ bytes b → length b ≤ length o → outcome t o ≡ record { answer = Ok (length b); left = written_at o 0 b }
unfolding read_text outcome
text_right t o b q h =
    let z : 0 + length b ≡ length b = omega arith in
    right_lines (lines_of t) 1 0 o b q (omega arith) ∙ ap (λ (k : ℕ). record { answer = Ok k; left = written_at o 0 b }) z

-- ---- what an answer tells of the text: the lines x from offset i on, where the buffer may have no room
abbrev TellsWhy : ℕ → Unread → Lines → Type 0
TellsWhy n NoRoom x = Unit {0}
TellsWhy n (Wrong f) x = x ≡ fault n f.reason f.column

abbrev Tells : ℕ → Result ℕ ListingFault → Lines → Type 0
Tells i (Ok k) x = (b : List ℕ) × (x ≡ bytes b) × (i + length b ≡ k)
Tells i (Err w) x = TellsWhy w.line w.why x

why_behind : (n : ℕ) (d : List ℕ) (u : Unread) (x : Lines) → TellsWhy n u x → TellsWhy n u (after_bytes d x)
why_behind n d NoRoom x t = tt
why_behind n d (Wrong f) x t = ap (after_bytes d) t

tells_behind : (i : ℕ) (d : List ℕ) (w : Result ℕ ListingFault) (x : Lines) → Tells (i + length d) w x → Tells i w (after_bytes d x)
tells_behind i d (Ok k) x t = (d ++ t.0, ap (after_bytes d) t.1, omega (arith, t.2, length-append d t.0))
tells_behind i d (Err w) x t = why_behind w.line d w.why x t

abbrev Told : List (List ℕ) → Type 0
Told ls = (n i : ℕ) (o : List ℕ) → Tells i (outcome_from n i o ls).answer (read_lines n i ls)

-- the lines behind one with the bytes d, which have room or not
module _ (ls : List (List ℕ)) (rest : Told ls) (n i : ℕ) (o d : List ℕ) (k : ℕ) (size : length d ≡ k) where
  abbrev behind : Lines
  behind = read_lines (n + 1) (i + length d) ls

  told_room : Tells i (outcome_from (n + 1) (i + k) o ls).answer (after_bytes d behind)
  told_room =
      subst (λ (j : ℕ). Tells i (outcome_from (n + 1) (i + j) o ls).answer (after_bytes d behind)) size
      (tells_behind i d (outcome_from (n + 1) (i + length d) o ls).answer behind (rest (n + 1) (i + length d) o))

  told_bytes : (r : Bool) → Tells i (after_line n o (cond r (Ok k) (Err NoRoom)) (λ j. outcome_from (n + 1) (i + j) o ls)).answer (after_bytes d behind)
  told_bytes true = told_room
  told_bytes false = tt

told_line : (l : ListingLine) (ls : List (List ℕ)) → Told ls → (n i : ℕ) (o : List ℕ)
    → Tells i (after_line n (read_left l i o) (read_answer l i o) (λ k. outcome_from (n + 1) (i + k) (read_left l i o) ls)).answer
    (then_lines n l (λ d. after_bytes d (read_lines (n + 1) (i + length d) ls)))
told_line (Ok None) ls rest n i o = told_room ls rest n i (written_at o i []) [] 0 refl
told_line (Ok (Some s)) ls rest n i o =
    let l : ListingLine = Ok (Some s) in
    told_bytes ls rest n i (read_left l i o) (line_bytes l) (s.count + 1) (omega (arith, length_big s.count s.operand)) (ltb (i + s.count) (length o))
told_line (Err f) ls rest n i o = refl

told_lines : (ls : List (List ℕ)) → Told ls
unfolding read_lines outcome_from
told_lines [] n i o = ([], refl, omega arith)
told_lines (l ∷ ls) n i o = told_line (meant i l) ls (told_lines ls) n i o

module _ (t o : List ℕ) where
  told_by : (w : Result ℕ ListingFault) → (outcome t o).answer ≡ w → Tells 0 w (read_text t)
  unfolding read_text outcome
  told_by w e = subst (λ (x : Result ℕ ListingFault). Tells 0 x (read_text t)) e (told_lines (lines_of t) 1 0 o)

  pub told_right : (k : ℕ) → (outcome t o).answer ≡ Ok k → k ≤ length o → read_text t ≡ bytes (take k (outcome t o).left)
  told_right k e h =
      let p = told_by (Ok k) e in
      let b = p.0 in
      let z : k ≡ length b = omega (arith, p.2) in
      let f = text_right t o b p.1 (omega (arith, z)) in
      p.1 ∙ ap bytes (sym (ap (λ (x : ListingOutcome). take k x.left) f ∙ ap (λ (j : ℕ). take j (written_at o 0 b)) z ∙ written_read o 0 b (omega (arith, z))))

  pub told_wrong : (n : ℕ) (f : LineFault) (c : ℕ) → (outcome t o).answer ≡ wrong_line n f c → read_text t ≡ fault n f c
  told_wrong n f c = told_by (wrong_line n f c)
