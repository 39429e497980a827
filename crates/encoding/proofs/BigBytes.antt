-- Numbers in bytes, the most significant first: the bytes of the number of some bytes are these. Assumes nothing.
use Prim.Native.Nat.{ℕ, zero, suc, ◌+◌, ◌-◌, ◌*◌, ◌/◌, ◌%◌, ◌≤◌, ◌<◌}
use native.Mathlib.Numerals.{add-one}
use native.Mathlib.Omega.{arith}
use mathlib.Core.List.{List, [], ◌∷◌, ◌++◌, append-nil, append_assoc}
use mathlib.Core.Path.{◌≡◌, refl, sym, ap, ◌∙◌}
use lib.Arith.{digits_div, digits_mod}
use lib.ListN.{length, take, drop, set, get_or, length-append, length-set, length-drop}
use lib.Seq.{take-suc, get_or-drop}
use Rattle.encoding.specs.Ranges.{AllBytes}
use Rattle.encoding.specs.BigEndian.{big_endian, big_bytes}
use Rattle.encoding.specs.Written.{written_at}
use Rattle.encoding.proofs.Writing.{written_nothing}

pub length_big : (n v : ℕ) → length (big_bytes n v) ≡ n
unfolding big_bytes
length_big zero v = refl
length_big (suc n) v = rw (length-append, length_big n) (add-one n)

pub bytes_of_big : (e : List ℕ) (i n : ℕ) → AllBytes e → i + n ≤ length e → big_bytes n (big_endian e i n) ≡ take n (drop i e)
unfolding big_bytes big_endian
bytes_of_big e i zero b h = refl
bytes_of_big e i (suc n) b h =
    let x = big_endian e i n in
    let y = get_or e (i + n) 0 in
    ap (λ (v : ℕ). big_bytes n v ++ (((x * 256 + y) % 256) ∷ [])) (digits_div x (b (i + n)))
    ∙ ap (λ (z : ℕ). big_bytes n x ++ (z ∷ [])) (digits_mod x (b (i + n)) ∙ sym (get_or-drop i e n 0))
    ∙ ap (λ (l : List ℕ). l ++ (get_or (drop i e) n 0 ∷ [])) (bytes_of_big e i n b (omega arith))
    ∙ sym (take-suc (drop i e) n 0 (omega (arith, length-drop i e)))

-- ---- the loop of `put_big`: the last bytes of v are written, left are to come before them, and x is what is left of v
pub record PuttingBig (l : List ℕ) (a v n : ℕ) (m : List ℕ) (x left : ℕ) : Type 0 where
  pub done : List ℕ
  pub within : left ≤ n
  pub whole : big_bytes n v ≡ big_bytes left x ++ done
  pub holds : m ≡ written_at l (a + left) done
  pub same : length m ≡ length l

written_before : (l : List ℕ) (a x : ℕ) (e : List ℕ) → set (written_at l (suc a) e) a x ≡ written_at l a (x ∷ e)
unfolding written_at
written_before [] a x e = refl
written_before (y ∷ l) zero x e = refl
written_before (y ∷ l) (suc a) x e = ap (λ (m : List ℕ). y ∷ m) (written_before l a x e)

pub big_start : (l : List ℕ) (a v n : ℕ) → PuttingBig l a v n l v n
big_start l a v n = record {
  done = [];
  within = omega arith;
  whole = sym (append-nil (big_bytes n v));
  holds = sym (written_nothing l (a + n));
  same = refl;
}

module _ {l : List ℕ} {a v n : ℕ} {m : List ℕ} {x left : ℕ} (p : PuttingBig l a v n m x left) where
  pub big_turn : 0 < left → PuttingBig l a v n (set m (a + (left - 1)) (x % 256)) (x / 256) (left - 1)
  unfolding big_bytes
  big_turn h =
      let d = p.done in
      let e : left ≡ suc (left - 1) = omega arith in
      let f : a + left ≡ suc (a + (left - 1)) = omega arith in
      record {
        done = (x % 256) ∷ d;
        within = omega (arith, p.within);
        whole = p.whole ∙ ap (λ (k : ℕ). big_bytes k x ++ d) e ∙ append_assoc (big_bytes (left - 1) (x / 256)) ((x % 256) ∷ []) d;
        holds = ap (λ (b : List ℕ). set b (a + (left - 1)) (x % 256)) (p.holds ∙ ap (λ (k : ℕ). written_at l k d) f) ∙ written_before l (a + (left - 1)) (x % 256) d;
        same = length-set m (a + (left - 1)) (x % 256) ∙ p.same;
      }

  pub big_end : left ≤ 0 → m ≡ written_at l a (big_bytes n v)
  unfolding big_bytes
  big_end h =
      let z : left ≡ 0 = omega arith in
      let f : a + left ≡ a = omega arith in
      p.holds ∙ ap (λ (k : ℕ). written_at l k p.done) f ∙ ap (written_at l a) (sym (p.whole ∙ ap (λ (k : ℕ). big_bytes k x ++ p.done) z))
