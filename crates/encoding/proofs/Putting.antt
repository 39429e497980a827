-- The loops of `put_little` and `put_each`, over every count, and the moves of `put_two`.
use mathlib.Core.List.{List}
use mathlib.Core.Path.{◌≡◌, refl, ap, ◌∙◌}
use Prim.Native.Nat.{ℕ, ◌+◌, ◌-◌, ◌/◌, ◌%◌, ◌^◌, ◌≤◌, ◌<◌}
use native.Mathlib.Nat.{pow-zero, pow-suc, div-div-eq-div-mul, div-one}
use native.Mathlib.Numerals.{add-one}
use native.Mathlib.Omega.{arith}
use lib.ListN.{length, take, drop, set, get_or, length-set, length-drop}
use lib.Seq.{take-suc, length-take-le, take_all}
use Rattle.encoding.specs.LittleEndian.{little_bytes}
use Rattle.encoding.specs.Written.{written_at}
use Rattle.encoding.proofs.LittleNumbers.{length_little, little_snoc}
use Rattle.encoding.proofs.Writing.{written_length, written_nothing, written_snoc, written_over}

-- k of the n bytes of v are written, and x is what is left of v
pub record PuttingLittle (l : List ℕ) (a v n : ℕ) (m : List ℕ) (k x : ℕ) : Type 0 where
  pub within : k ≤ n
  pub holds : m ≡ written_at l a (little_bytes k v)
  pub rest : x ≡ v / 256 ^ k
  pub same : length m ≡ length l

pub little_start : (l : List ℕ) (a v n : ℕ) → PuttingLittle l a v n l 0 v
unfolding little_bytes
little_start l a v n = record { within = omega arith; holds = rw written_nothing; rest = rw (pow-zero, div-one); same = refl }

module _ {l : List ℕ} {a v n : ℕ} {m : List ℕ} {k x : ℕ} (p : PuttingLittle l a v n m k x) where
  pub little_turn : k < n → PuttingLittle l a v n (set m (a + k) (x % 256)) (k + 1) (x / 256)
  little_turn h = record {
    within = omega arith;
    holds = rw (p.holds, written_snoc l a k (little_bytes k v) (x % 256) (length_little k v), p.rest, little_snoc);
    rest = rw (p.rest, div-div-eq-div-mul, add-one, pow-suc);
    same = length-set m (a + k) (x % 256) ∙ p.same;
  }

  pub little_end : n ≤ k → m ≡ written_at l a (little_bytes n v)
  little_end h = let e : k ≡ n = omega (arith, p.within) in rw e at p.holds

-- k of the bytes are copied
pub record PuttingBytes (l : List ℕ) (a : ℕ) (bytes m : List ℕ) (k : ℕ) : Type 0 where
  pub within : k ≤ length bytes
  pub holds : m ≡ written_at l a (take k bytes)
  pub same : length m ≡ length l

pub bytes_start : (l : List ℕ) (a : ℕ) (bytes : List ℕ) → PuttingBytes l a bytes l 0
bytes_start l a bytes = record { within = omega arith; holds = rw written_nothing; same = refl }

module _ {l : List ℕ} {a : ℕ} {bytes m : List ℕ} {k : ℕ} (p : PuttingBytes l a bytes m k) where
  pub bytes_turn : k < length bytes → PuttingBytes l a bytes (set m (a + k) (get_or bytes k 0)) (k + 1)
  bytes_turn h = record {
    within = omega arith;
    holds = rw (p.holds, written_snoc l a k (take k bytes) (get_or bytes k 0) (length-take-le k bytes p.within), ← (take-suc bytes k 0 h), add-one);
    same = length-set m (a + k) (get_or bytes k 0) ∙ p.same;
  }

  pub bytes_end : length bytes ≤ k → m ≡ written_at l a bytes
  bytes_end h = p.holds ∙ ap (λ r. written_at l a r) (take_all k bytes h)

  -- the last w bytes, from j on, which may overlap those that are copied
  pub block_end : (j w : ℕ) {o : List ℕ} → o ≡ written_at m (a + j) (take w (drop j bytes)) → j + w ≡ length bytes → j ≤ k → o ≡ written_at l a bytes
  block_end j w q e h =
      q
      ∙ ap (λ (r : List ℕ). written_at m (a + j) r) (take_all w (drop j bytes) (omega (arith, length-drop j bytes)))
      ∙ ap (λ (r : List ℕ). written_at r (a + j) (drop j bytes)) p.holds
      ∙ written_over l a bytes j k h p.within

-- ---- the first w bytes, and the last w
pub two_moves : (l : List ℕ) (a : ℕ) (bytes : List ℕ) (w : ℕ) {m o : List ℕ} → w ≤ length bytes → length bytes ≤ w + w
    → m ≡ written_at l a (take (w - 0) (drop 0 bytes))
    → o ≡ written_at m (a + (length bytes - w)) (take (length bytes - (length bytes - w)) (drop (length bytes - w) bytes)) → o ≡ written_at l a bytes
two_moves l a bytes w {m} h i p q =
    let first : PuttingBytes l a bytes m w = record {
      within = h;
      holds = let e : w - 0 ≡ w = omega arith in rw e at p;
      same = ap length p ∙ written_length l a (take (w - 0) (drop 0 bytes));
    } in
    block_end first (length bytes - w) (length bytes - (length bytes - w)) q (omega arith) (omega arith)
