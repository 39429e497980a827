-- What users of `refusals` may cite.
use mathlib.Core.Bool.{Bool, true, false, cond, ◌&&◌}
use mathlib.Core.List.{List, [], ◌∷◌, ◌++◌}
use mathlib.Core.Logic.{◌≢◌}
use mathlib.Core.Path.{◌≡◌, refl}
use Prim.Native.Nat.{ℕ, ◌≤◌, zero-le}
use native.Mathlib.Omega.{arith}
use lib.Dec.{T, leb, ltb, leb→le, ltb→lt}
use Rattle.logic.proofs.Promises.{and_left, and_right}
use Rattle.refusals.specs.Numbers.{number_of}
use Rattle.refusals.specs.declared.Reason.{Reason}
use Rattle.refusals.specs.declared.Reason.TheVariants.{ExpressionSize, OpcodeUnknown, OpcodeUnsupported, OperandsCut, OperandBad, JumpNoStart, JumpNotForward, HeightsDiffer, CellsTooFew, CellsTooMany, RunsOff, SpanPastEnd, SpansShare, RegistersMany, BufferBad, AllowanceSpent, DivisorZero, RegisterNotLent, RangeNotReadable, RecordSize, BufferFull, TrailerBroken, RecordBroken, NoSuchFrame, NoSuchRecord}
use Rattle.refusals.specs.Numbers.{number_of}
use Rattle.refusals.specs.Tried.{tried, numbered, NoneHolds}
use Rattle.refusals.specs.declared.Reason.{Reason}
use Rattle.refusals.specs.declared.Reason.TheVariants.{ExpressionSize}

-- no reason has the number 0
pub number_some : (r : Reason) → 1 ≤ number_of r
number_some ExpressionSize = omega arith
number_some r = omega arith

first_fails : (b : Bool) (r y : ℕ) → T (ltb 0 r) → cond b r y ≡ 0 → (b ≡ false) × (y ≡ 0)
first_fails true r y t h = absurd (omega (arith, ltb→lt 0 r t))
first_fails false r y t h = (refl, h)

-- where no number is found, no test holds
pub none_holds : (ts : List (Bool × ℕ)) → T (numbered ts) → tried ts ≡ 0 → NoneHolds ts
none_holds [] n h = tt
none_holds (t ∷ ts) n h =
    let p = first_fails t.0 t.1 (tried ts) (and_left (ltb 0 t.1) (numbered ts) n) h in
    (p.0, none_holds ts (and_right (ltb 0 t.1) (numbered ts) n) p.1)

-- ---- tests behind others
-- the first tests decide where one of them holds
pub tried_first : (ts us : List (Bool × ℕ)) → tried ts ≢ 0 → tried (ts ++ us) ≡ tried ts
tried_first [] us h = absurd (h refl)
tried_first ((true, r) ∷ ts) us h = refl
tried_first ((false, r) ∷ ts) us h = tried_first ts us h

-- and the others where none of them does
pub tried_then : (ts us : List (Bool × ℕ)) → NoneHolds ts → tried (ts ++ us) ≡ tried us
tried_then [] us h = refl
tried_then (t ∷ ts) us h = rw h.0 (tried_then ts us h.1)

-- ---- the number found is at most the greatest
abbrev pub numbers_at_most : ℕ → List (Bool × ℕ) → Bool
numbers_at_most b [] = true
numbers_at_most b (t ∷ ts) = leb t.1 b && numbers_at_most b ts

chosen_most : (c : Bool) (b x y : ℕ) → x ≤ b → y ≤ b → cond c x y ≤ b
chosen_most true b x y h l = h
chosen_most false b x y h l = l

pub tried_most : (b : ℕ) (ts : List (Bool × ℕ)) → T (numbers_at_most b ts) → tried ts ≤ b
tried_most b [] n = zero-le
tried_most b (t ∷ ts) n =
    chosen_most t.0 b t.1 (tried ts) (leb→le t.1 b (and_left (leb t.1 b) (numbers_at_most b ts) n))
    (tried_most b ts (and_right (leb t.1 b) (numbers_at_most b ts) n))

-- ---- every reason has a number other than 0
pub reason_some : (r : Reason) → 1 ≤ number_of r
reason_some ExpressionSize = omega arith
reason_some OpcodeUnknown = omega arith
reason_some OpcodeUnsupported = omega arith
reason_some OperandsCut = omega arith
reason_some OperandBad = omega arith
reason_some JumpNoStart = omega arith
reason_some JumpNotForward = omega arith
reason_some HeightsDiffer = omega arith
reason_some CellsTooFew = omega arith
reason_some CellsTooMany = omega arith
reason_some RunsOff = omega arith
reason_some SpanPastEnd = omega arith
reason_some SpansShare = omega arith
reason_some RegistersMany = omega arith
reason_some BufferBad = omega arith
reason_some AllowanceSpent = omega arith
reason_some DivisorZero = omega arith
reason_some RegisterNotLent = omega arith
reason_some RangeNotReadable = omega arith
reason_some RecordSize = omega arith
reason_some BufferFull = omega arith
reason_some TrailerBroken = omega arith
reason_some RecordBroken = omega arith
reason_some NoSuchFrame = omega arith
reason_some NoSuchRecord = omega arith
