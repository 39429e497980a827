-- Every byte of a memory record is the target's byte at its address (promise R3).
use mathlib.Core.List.{List}
use mathlib.Core.Path.{◌≡◌}
use Prim.Native.Nat.{ℕ, ◌+◌, ◌<◌}
use lib.ListN.{length, get_or}
use Rattle.memory.specs.Spans.{Target, spans_refusal}
use Rattle.memory.specs.Fetch.{InTarget, target_byte}
use Rattle.memory.proofs.Promises.{target_part}
use Rattle.frames.specs.Record.{memory}
use Rattle.machine.specs.Given.{Given}
use Rattle.machine.specs.Run.{ended}
use Rattle.machine.specs.Recorded.{FromTarget, AllFromTarget, records_of}
use Rattle.machine.proofs.Made.{records_all}

-- ---- byte by byte
-- a span holds its address, and the byte is the target's there
pub recorded_byte : (t : Target) → spans_refusal t ≡ 0 → (a : ℕ) (bytes : List ℕ) → FromTarget t (memory a bytes) → (i : ℕ) → i < length bytes
    → InTarget t (a + i) × (get_or bytes i 0 ≡ target_byte t (a + i))
recorded_byte t fine a bytes = target_part t fine a (length bytes) bytes

-- ---- whole runs
-- every record of a run is from the target, however it ended
pub records_from_target : (g : Given) → AllFromTarget g.target (records_of (ended g))
records_from_target g =
    records_all g (FromTarget g.target) (λ _ _ _ p _ _. p) (λ _. Unit {0})
    (λ _ _ _ _. record { first = tt; of_variable = λ _ _ _. tt; kept = λ _ _ _ _ _ _. tt }) (AllFromTarget g.target) tt (λ _ _ p q. (p, q))
