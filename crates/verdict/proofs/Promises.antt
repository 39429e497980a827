-- What users of the verifier may cite: promises V1 to V5, and what an answer means. Only the crates that follow the
-- passes, `passes` and `acceptor`, look behind this page. The definitions that it names are in specs/: Verdict (the
-- answer), Acceptance (what it means), and in `isa` Walk.
use mathlib.Core.Bool.{true}
use mathlib.Core.List.{List, [], ◌∷◌, ◌++◌}
use mathlib.Core.Logic.{◌↔◌}
use mathlib.Core.Path.{◌≡◌}
use Prim.Native.Nat.{ℕ, ◌≤◌, ◌<◌}
use native.Mathlib.Omega.{arith}
use lib.ListN.{length}
use Rattle.refusals.specs.Numbers.{heights_differ, runs_off}
use Rattle.refusals.specs.Refusal.{Refusal, refusal}
use Rattle.isa.specs.Classes.{kind_unsupported}
use Rattle.isa.specs.Decode.{kind_at, next, height_after}
use Rattle.isa.specs.Starts.{is_start}
use Rattle.isa.specs.Walk.{After, Walk, stop, weigh}
use Rattle.isa.proofs.Promises.{start_in, start_zero, walk_last, walk_on}
use Rattle.verdict.specs.Pass3.{heaviest}
use Rattle.verdict.specs.Verdict.{accepted, refused, verdict}
use Rattle.verdict.specs.Acceptance.{WalksFit, Acceptable, GreatestHeight, MostIs, Accepted, Ready, WithinLongest, Broken, OneHeight, Justified, Means}
use Rattle.verdict.proofs.Decoded.{decodes_fits, decodes_known}
use Rattle.verdict.proofs.Along.{after_later, walk_length}
use Rattle.verdict.proofs.Endings.{follows}
use Rattle.verdict.proofs.Meaning as meaning

-- V1. The contract of `verify` (crate `verifier`): of any bytes e its answer, in document 01's number and values, is
-- `verdict e`.

module _ (e : List ℕ) where
  -- V2, V4, V5. The answer is `accepted n g l` if and only if passes 1 and 2 hold, every walk fits, n is the number of
  -- instructions, g is reached on a walk and exceeded on none, and some walk to an end has exactly l instructions and
  -- none has more.
  pub verdict_accepted : {n g l : ℕ} → (verdict e ≡ accepted n g l) ↔ Accepted e n g l
  verdict_accepted = (λ p. rw p at (meaning.verdict_means e), meaning.accepted_verdict e)

  -- V3. The answer is `refused x` if and only if that refusal is justified: the size, the first start at fault, or
  -- walks that show it, where none of 8 to 11 is met at a lower instruction and none of a lower number at this one.
  pub verdict_refused : {x : Refusal} → (verdict e ≡ refused x) ↔ Justified e x
  verdict_refused = (λ p. rw p at (meaning.verdict_means e), meaning.refused_verdict e)

  -- So every answer is true;
  pub means : Means e (verdict e)
  means = meaning.verdict_means e

  -- no two refusals of an expression are justified, and none is where it is accepted;
  pub one_refusal : {x y : Refusal} → Justified e x → Justified e y → x ≡ y
  one_refusal x y = let p = verdict_refused.1 x in let q = verdict_refused.1 y in cc

  pub never_both : {n g l : ℕ} {x : Refusal} → Accepted e n g l → Justified e x → ⊥
  never_both x y = let p = verdict_accepted.1 x in let q = verdict_refused.1 y in let z : ◌≡◌ {A = ℕ} 0 1 = cc in omega arith

  -- and each number of an acceptance is one number.
  pub one_greatest : {g h : ℕ} → GreatestHeight e g → GreatestHeight e h → g ≡ h
  one_greatest = meaning.one_greatest e

  pub one_most : {μ : List ℕ → ℕ} {l m : ℕ} → MostIs μ e l → MostIs μ e m → l ≡ m
  one_most = meaning.one_most e

  -- V2, V4, V5, one way, as others cite it.
  pub accepted_means : {n g l : ℕ} → verdict e ≡ accepted n g l → Accepted e n g l
  accepted_means = verdict_accepted.0

  -- V2, the other way: where passes 1 and 2 hold and every walk fits, the expression is accepted.
  pub fitting_accepted : Acceptable e → (n : ℕ) × (g : ℕ) × (l : ℕ) × (verdict e ≡ accepted n g l)
  fitting_accepted = meaning.fits_accepted e

  -- V3, of pass 3: a refusal from 8 up is shown by a walk, or two; no lower instruction is at fault; and heights do not
  -- differ there where the refusal is another.
  pub refused_means : {x : Refusal} → verdict e ≡ refused x → heights_differ ≤ x.number
      → Broken e x.offset x.number × WalksFit e x.offset × (heights_differ < x.number → OneHeight e x.offset)
  refused_means p = meaning.late_broken e (verdict_refused.0 p)

  -- The number of a refusal is one of 1 to 11;
  pub refused_number : {x : Refusal} → verdict e ≡ refused x → (1 ≤ x.number) × (x.number ≤ runs_off)
  refused_number p = meaning.justified_number e (verdict_refused.0 p)

  -- it has that and an offset, and nothing ran.
  pub refused_plain : {x : Refusal} → verdict e ≡ refused x → x ≡ refusal x.number x.offset
  refused_plain p = meaning.justified_plain e (verdict_refused.0 p)

  -- V5 over any weight f of the instructions: `heaviest f e` is the weight of some walk to an end, and none weighs
  -- more.
  pub weighted : (f : ℕ → ℕ) → Acceptable e → MostIs (weigh f) e (heaviest f e)
  weighted = meaning.fits_most e

  -- Every start, reached or not, is that of a supported instruction, with all its operands.
  pub start_whole : Acceptable e → (k : ℕ) → is_start e k ≡ true → (kind_unsupported < kind_at e k) × (next e k ≤ length e)
  start_whole a k s = (decodes_known e k a.decodes s, decodes_fits e k a.decodes s)

  -- ---- what a runner needs, step by step
  module _ {n g l : ℕ} (a : Accepted e n g l) where
    -- it begins at offset 0 with an empty stack
    pub begins : Walk e 0 0 (0 ∷ []) 0 0
    begins = stop (start_zero e a.acceptable.sized.some)

    -- at the last instruction of a walk: opcode and operands are there, the cells are there, and the result fits
    pub ready : {w : List ℕ} {j u : ℕ} → Walk e 0 0 w j u → Ready e j u
    ready = meaning.walk_ready e a

    -- the walk is no longer than l
    pub within_longest : {w : List ℕ} {j u : ℕ} → Walk e 0 0 w j u → WithinLongest e l w j
    within_longest = meaning.walk_within e a

    -- the longest walk has at most as many instructions as the expression has bytes
    pub longest_length : l ≤ length e
    longest_length =
        let t = a.longest.shown.to_end in
        omega (arith, a.longest.number, walk_length a.acceptable.aims t.2, start_in e t.0 (walk_last t.2))

    -- whatever comes next is an instruction, so that the walk goes on
    pub goes_on : {w : List ℕ} {j u m : ℕ} → Walk e 0 0 w j u → After e j m → Walk e 0 0 (w ++ (m ∷ [])) m (height_after e j u)
    goes_on x t = walk_on x t (follows e a.acceptable.walks a.acceptable.aims x t)

    -- and it stands after the instruction: no walk goes back
    pub goes_forward : {w : List ℕ} {j u m : ℕ} → Walk e 0 0 w j u → After e j m → j < m
    goes_forward x t = after_later a.acceptable.aims (walk_last x) t
