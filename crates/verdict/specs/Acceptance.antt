-- What an answer means, in the words of document 01, "Verifying": of every start and of every walk from offset 0, with
-- nothing of how the passes find it. An answer is given if and only if it is true: proofs/Promises.antt,
-- `verdict_accepted` and `verdict_refused`.
use Rattle.std.specs.Prelude.{true, ◌≢◌, ◌⊎◌, List, [], ◌∷◌, ◌≡◌, ℕ, ◌+◌, ◌-◌, ◌≤◌, ◌<◌, length}
use Rattle.sizes.specs.Sizes.{expression_most, stack_cells, variable_count}
use Rattle.refusals.specs.Numbers.{expression_size, heights_differ, cells_too_few, cells_too_many, runs_off}
use Rattle.refusals.specs.Refusal.{Refusal, refusal}
use Rattle.isa.specs.Classes.{kind_unsupported, kind_ext, kind_variable, kind_end}
use Rattle.isa.specs.Decode.{kind_at, operand_bytes, operand, needed, left, height_after}
use Rattle.isa.specs.Starts.{starts, is_start}
use Rattle.isa.specs.Walk.{After, Walk}
use Rattle.verdict.specs.Pass1.{fault1, Decodes}
use Rattle.verdict.specs.Pass2.{fault2, Aims}
use Rattle.verdict.specs.Verdict.{Verdict, accepted, refused}

-- "An expression has 1 to 1,024 bytes."
pub record Sized (e : List ℕ) : Type 0 where
  pub some : 1 ≤ length e
  pub short : length e ≤ expression_most

-- ==== acceptance
-- On every walk from offset 0 to an instruction below n: "each instruction has its cells, at most 64 remain, two walks
-- to one instruction arrive at one height, and no walk leaves the bytes". Since a walk may stop anywhere, it is enough
-- to speak of its last instruction.
pub record WalksFit (e : List ℕ) (n : ℕ) : Type 0 where
  pub cells : {w : List ℕ} {j u : ℕ} → Walk e 0 0 w j u → j < n → needed e j ≤ u
  pub room : {w : List ℕ} {j u : ℕ} → Walk e 0 0 w j u → j < n → height_after e j u ≤ stack_cells
  pub one_height : {v w : List ℕ} {j t u : ℕ} → Walk e 0 0 v j t → Walk e 0 0 w j u → j < n → t ≡ u
  pub stays : {w : List ℕ} {j u m : ℕ} → Walk e 0 0 w j u → j < n → After e j m → m < length e

-- "Accepted means": the size, passes 1 and 2, and every walk
pub record Acceptable (e : List ℕ) : Type 0 where
  pub sized : Sized e
  pub decodes : Decodes e
  pub aims : Aims e
  pub walks : WalksFit e (length e)

-- "the greatest height": a walk from offset 0 has it after its last instruction, and none has more, before or after it
pub record GreatestHeight (e : List ℕ) (g : ℕ) : Type 0 where
  pub reached : (w : List ℕ) × (j : ℕ) × (u : ℕ) × Walk e 0 0 w j u × (height_after e j u ≡ g)
  pub most : {w : List ℕ} {j u : ℕ} → Walk e 0 0 w j u → (u ≤ g) × (height_after e j u ≤ g)

-- "a walk to an end stops at an end instruction"
abbrev pub ToEnd : List ℕ → List ℕ → Type 0
ToEnd e w = (j : ℕ) × (u : ℕ) × Walk e 0 0 w j u × (kind_at e j ≡ kind_end)

-- w is a walk to an end, and no walk to an end has more, where μ measures a walk: by `length` for the longest walk, or
-- by the weight of its instructions
pub record Most (μ : List ℕ → ℕ) (e w : List ℕ) : Type 0 where
  pub to_end : ToEnd e w
  pub most : {v : List ℕ} → ToEnd e v → μ v ≤ μ w

-- some walk to an end has exactly l, and none has more
pub record MostIs (μ : List ℕ → ℕ) (e : List ℕ) (l : ℕ) : Type 0 where
  pub list : List ℕ
  pub shown : Most μ e list
  pub number : μ list ≡ l

-- What the answer `accepted n g l` says: "pass 1's instruction count, the greatest height, and the length of the
-- longest walk to an end".
pub record Accepted (e : List ℕ) (n g l : ℕ) : Type 0 where
  pub acceptable : Acceptable e
  pub count : n ≡ length (starts e)
  pub height : GreatestHeight e g
  pub longest : MostIs length e l

-- Of the instruction at `at`, reached with height h, in `long` bytes: it has that kind, so many operand bytes and that
-- operand, needs so many cells and leaves so many in their place.
pub record Fits (bytes takes leaves kind value long at h : ℕ) : Type 0 where
  pub inside : at + 1 + bytes ≤ long
  pub known : kind_unsupported < kind
  pub ext_some : kind ≡ kind_ext → 1 ≤ value
  pub variable_low : kind ≡ kind_variable → value < variable_count
  pub cells : takes ≤ h
  pub low : h ≤ stack_cells
  pub room : h - takes + leaves ≤ stack_cells

-- All that a runner needs of the instruction at j, reached with height u: it holds of the last instruction of every
-- walk from offset 0, in every edition.
abbrev pub Ready : List ℕ → ℕ → ℕ → Type 0
Ready e j u = Fits (operand_bytes e j) (needed e j) (left e j) (kind_at e j) (operand e j) (length e) j u

-- The walk w to j is no longer than l, and shorter where it can go on: so of every walk, in edition 1, where l is the
-- longest walk to an end.
pub record WithinLongest (e : List ℕ) (l : ℕ) (w : List ℕ) (j : ℕ) : Type 0 where
  pub short : length w ≤ l
  pub shorter : kind_at e j ≢ kind_end → length w < l

-- ==== refusal
-- Passes 1 and 2, where f gives each start's refusal, or 0: the start k is refused with r, and none before it is ("the
-- first fault found is the answer").
pub record FirstFault (f : ℕ → ℕ) (e : List ℕ) (r k : ℕ) : Type 0 where
  pub start : is_start e k ≡ true
  pub number : f k ≡ r
  pub faulty : 1 ≤ r
  pub clear_before : (j : ℕ) → j < k → is_start e j ≡ true → f j ≡ 0

-- Pass 3: what shows the refusal r of the instruction at k. Each list is a walk from offset 0 to k; 8 takes two, 9 to
-- 11 take one. "in that order": an instruction that lacks its cells shows neither 10 nor 11, and one after which too
-- many remain does not show 11.
pub data Shows (e : List ℕ) (k r : ℕ) (lists : List (List ℕ)) : Type 0 where
  two_heights : {v w : List ℕ} {t u : ℕ} → r ≡ heights_differ → lists ≡ v ∷ w ∷ [] → Walk e 0 0 v k t → Walk e 0 0 w k u → t ≢ u → Shows e k r lists
  cells_lack : {w : List ℕ} {u : ℕ} → r ≡ cells_too_few → lists ≡ w ∷ [] → Walk e 0 0 w k u → u < needed e k → Shows e k r lists
  cells_exceed : {w : List ℕ} {u : ℕ} → r ≡ cells_too_many → lists ≡ w ∷ [] → Walk e 0 0 w k u → needed e k ≤ u → stack_cells < height_after e k u
      → Shows e k r lists
  walk_leaves : {w : List ℕ} {u m : ℕ} → r ≡ runs_off → lists ≡ w ∷ []
      → Walk e 0 0 w k u → needed e k ≤ u → height_after e k u ≤ stack_cells → After e k m → m ≡ length e → Shows e k r lists

-- some lists show it
abbrev pub Broken : List ℕ → ℕ → ℕ → Type 0
Broken e k r = (lists : List (List ℕ)) × Shows e k r lists

-- all walks from offset 0 to the instruction at k arrive at one height
pub record OneHeight (e : List ℕ) (k : ℕ) : Type 0 where
  pub same : {v w : List ℕ} {t u : ℕ} → Walk e 0 0 v k t → Walk e 0 0 w k u → t ≡ u

-- What the answer `refused x` says. Of the size: 1 at 0. Of passes 1 and 2, each only where those before it hold: the
-- first start at fault. Of pass 3: walks show it at k, heights differ there only if that is the refusal, and at no
-- lower instruction is any of 8 to 11 met.
pub data Justified (e : List ℕ) (x : Refusal) : Type 0 where
  of_size : x ≡ refusal expression_size 0 → (length e ≡ 0) ⊎ (expression_most < length e) → Justified e x
  of_pass1 : {r k : ℕ} → x ≡ refusal r k → Sized e → FirstFault (fault1 e) e r k → Justified e x
  of_pass2 : {r k : ℕ} → x ≡ refusal r k → Sized e → Decodes e → FirstFault (fault2 e) e r k → Justified e x
  of_pass3 : {r k : ℕ} → x ≡ refusal r k → Sized e → Decodes e → Aims e → Broken e k r → (heights_differ < r → OneHeight e k) → WalksFit e k
      → Justified e x

-- What a verdict says.
abbrev pub Means : List ℕ → Verdict → Type 0
Means e (accepted n g l) = Accepted e n g l
Means e (refused x) = Justified e x
