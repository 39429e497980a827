-- The machine follows the verifier's walks: in an accepted expression its offset, the height of its stack and its steps
-- are those of a walk from offset 0.
use mathlib.Core.List.{List, [], ◌∷◌, ◌++◌}
use mathlib.Core.Logic.{◌≢◌}
use mathlib.Core.Path.{◌≡◌, refl}
use Prim.Native.Nat.{ℕ, ◌+◌, ◌≤◌, ◌<◌}
use native.Mathlib.Omega.{arith}
use lib.ListN.{length, length-append}
use Rattle.isa.specs.Classes.{kind_end}
use Rattle.isa.specs.Decode.{kind_at}
use Rattle.isa.specs.Walk.{Walk}
use Rattle.frames.specs.Record.{Record}
use Rattle.verdict.specs.Acceptance.{Accepted, Ready}
use Rattle.verdict.proofs.Promises.{begins, ready, within_longest, goes_on}
use Rattle.machine.specs.Given.{Fixed}
use Rattle.machine.specs.Meaning.{leaves, faults, done, stack_after, offset_after}
use Rattle.machine.proofs.Cells.{Stepping, height_after_lem, faults_stepping, after_offset}

-- A walk from offset 0 to k that arrives with the height of the stack s and has i instructions before k. Of a state st
-- these are its offset, stack and steps.
pub record OnWalk (e : List ℕ) (k : ℕ) (s : List ℕ) (i : ℕ) : Type 0 where
  pub list : List ℕ
  pub walk : Walk e 0 0 list k (length s)
  pub long : length list ≡ i + 1

module _ {e : List ℕ} {n g l : ℕ} (a : Accepted e n g l) where
  -- the machine begins on a walk
  pub walk_begins : OnWalk e 0 [] 0
  walk_begins = record { list = 0 ∷ []; walk = begins e a; long = refl }

  module _ {k : ℕ} {s : List ℕ} {i : ℕ} (w : OnWalk e k s i) where
    -- the instruction there is whole and known, and has its cells and its room
    pub walk_ready : Ready e k (length s)
    walk_ready = ready e a w.walk

    -- with it the steps are at most the longest walk; fewer where it is no end
    pub steps_short : i + 1 ≤ l
    steps_short = omega (arith, w.long, (within_longest e a w.walk).short)

    pub steps_shorter : kind_at e k ≢ kind_end → i + 1 < l
    steps_shorter h = omega (arith, w.long, (within_longest e a w.walk).shorter h)

module _ (m : Fixed) {n g l : ℕ} (a : Accepted m.expression n g l) {k : ℕ} {s : List ℕ} {i : ℕ} (w : OnWalk m.expression k s i) (v : List ℕ) (free : ℕ) where
  -- after an instruction that is not refused and no end, the machine is on a walk
  pub walk_moves : {cells : List ℕ} {rs : List Record} → done m k s v free ≡ leaves cells rs → kind_at m.expression k ≢ kind_end
      → OnWalk m.expression (offset_after m.expression k s) (stack_after m.expression k s cells) (i + 1)
  walk_moves p h = record {
    list = w.list ++ (offset_after m.expression k s ∷ []);
    walk = rw (height_after_lem m k s v free p (walk_ready a w).cells) (goes_on m.expression a w.walk (after_offset m.expression k s h));
    long = omega (arith, w.long, length-append w.list (offset_after m.expression k s ∷ []));
  }

  -- a refusal is one of 17 to 21
  pub walk_faults : {r : ℕ} → done m k s v free ≡ faults r → Stepping r
  walk_faults p = faults_stepping m k s v free p (walk_ready a w).cells (walk_ready a w).known
