-- Laws of the notes, for the proofs of the functions that append them. Assumes nothing.
use Prim.Native.Nat.{ℕ, suc, ◌+◌, ◌-◌, ◌*◌, ◌/◌, ◌≤◌, ◌<◌, min}
use native.Mathlib.Omega.{arith}
use mathlib.Core.Bool.{Bool}
use mathlib.Core.List.{List, [], ◌++◌}
use mathlib.Core.Path.{◌≡◌, sym, ap, ◌∙◌}
use lib.ListN.{length, take}
use lib.Seq.{take_all}
use Rattle.logic.proofs.Promises.{cases}
use Rattle.text_buffer.specs.Text.{Appends}
use Rattle.text_buffer.proofs.Promises.{appends_then}
use Rattle.collection_notes.specs.Notes.{wanted_note, notes_from, mask_notes, register_notes}

module _ (m e : List ℕ) (a : Bool) (r : ℕ) where
  -- ---- the notes from a register on
  abbrev pub notes_at : List ℕ
  notes_at = notes_from m e a (8 * length m - r) r

  pub notes_part : r / 8 < length m → wanted_note m e a r ++ notes_from m e a (8 * length m - (r + 1)) (r + 1) ≡ notes_at
  unfolding notes_from
  notes_part h =
      let k = 8 * length m - (r + 1) in
      let z : suc k ≡ 8 * length m - r = omega arith in
      ap (λ (n : ℕ). notes_from m e a n r) z

  pub notes_end : length m ≤ r / 8 → [] ≡ notes_at
  unfolding notes_from
  notes_end h = let z : 0 ≡ 8 * length m - r = omega arith in ap (λ (n : ℕ). notes_from m e a n r) z

pub notes_all : (m e : List ℕ) (a : Bool) → notes_from m e a (8 * length m - 0) 0 ≡ mask_notes m e a
unfolding mask_notes
notes_all m e a = let z : 8 * length m - 0 ≡ 8 * length m = omega arith in ap (λ (n : ℕ). notes_from m e a n 0) z

-- ---- a mask of any length: its first n bytes are those that count
pub notes_cut : (m e : List ℕ) (a : Bool) (n : ℕ) → n ≡ min (length m) 8192 → mask_notes (take n m) e a ≡ register_notes m e a
unfolding register_notes
notes_cut m e a n is =
    ap (λ (l : List ℕ). mask_notes l e a) (cases n 8192 (λ h. take_all n m (omega arith) ∙ sym (take_all 8192 m (omega arith))) (λ h. let z : n ≡ 8192 = omega arith in ap (λ (k : ℕ). take k m) z))

-- a text behind an empty one
pub then : {b b' b'' : List ℕ} {n n' n'' : ℕ} {s : List ℕ} → Appends b n [] b' n' → Appends b' n' s b'' n'' → Appends b n s b'' n''
then {s = s} p q = appends_then [] s p q
