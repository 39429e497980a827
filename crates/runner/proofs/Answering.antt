-- The answer at an end, and the trailer, from what the code reads and calls.
use mathlib.Core.List.{List}
use mathlib.Core.Logic.{◌≢◌}
use mathlib.Core.Path.{◌≡◌, refl, sym, ap, ◌∙◌}
use Prim.Native.Nat.{ℕ, suc, ◌+◌, ◌-◌, ◌≤◌}
use native.Mathlib.Omega.{arith}
use lib.ListN.{length, get_or}
use Rattle.encoding.specs.Written.{written_at}
use Rattle.isa.specs.Joining.Held.{held}
use Rattle.frames.specs.Trailer.{trailer_size, encode_trailer}
use Rattle.std.specs.Prelude.{Option}
use borrow.Author.Tests.{le-leb}
use Rattle.frames.specs.Writing.{written, written_trailer}
use Rattle.frames.specs.Joining.Answers.{Leaves}
use Rattle.frames.specs.declared.Tag.{Tag}
use Rattle.frames.proofs.Promises.{trailer_length}
use Rattle.machine.specs.Machine.{no_value, top, top_and_beneath, answer}

pub answer_none : (a : List ℕ) (h : ℕ) → h ≡ 0 → no_value ≡ answer (held a h)
unfolding held
answer_none a h e = rw e refl

pub answer_one : (a : List ℕ) (h : ℕ) → h ≡ 1 → top (get_or a (h - 1) 0) ≡ answer (held a h)
unfolding held
answer_one a h e = rw e refl

answer_two_by : (a : List ℕ) (k : ℕ) → top_and_beneath (get_or a (suc (suc k) - 1) 0) (get_or a (suc (suc k) - 2) 0) ≡ answer (held a (suc (suc k)))
unfolding held
answer_two_by a k = let e : suc (suc k) - 1 ≡ suc k = omega arith in let f : suc (suc k) - 2 ≡ k = omega arith in rw (e, f) refl

pub answer_two : (a : List ℕ) (h : ℕ) → h ≢ 0 → h ≢ 1 → top_and_beneath (get_or a (h - 1) 0) (get_or a (h - 2) 0) ≡ answer (held a h)
answer_two a h n m =
    let e : h ≡ suc (suc (h - 2)) = omega arith in
    ap (λ (x : ℕ). top_and_beneath (get_or a (x - 1) 0) (get_or a (x - 2) 0)) e ∙ answer_two_by a (h - 2) ∙ ap (λ (x : ℕ). answer (held a x)) (sym e)

-- a trailer that fits is written
pub closed : (l : List ℕ) (p : ℕ) (t : Tag) (n : ℕ) {r : Option ℕ} {m : List ℕ} → p + trailer_size ≤ length l → Leaves (written_trailer l p t n) r m → m ≡ written_at l p (encode_trailer t n)
unfolding written
closed l p t n h w = w.bytes ∙ rw (le-leb (p + length (encode_trailer t n)) (length l) (omega (arith, h, trailer_length t n))) refl
