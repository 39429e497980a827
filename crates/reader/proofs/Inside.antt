-- What is read lies inside the buffer, and a walk comes to its end.
use mathlib.Core.Bool.{Bool, true, false, cond}
use mathlib.Core.List.{List, [], ◌∷◌}
use mathlib.Core.Path.{◌≡◌, refl}
use Prim.Native.Nat.{ℕ, zero, suc, ◌+◌, ◌≤◌}
use native.Mathlib.Omega.{arith}
use lib.ListN.{length, length-append}
use Rattle.refusals.specs.Numbers.{buffer_bad}
use Rattle.refusals.specs.Refusal.{refusal}
use Rattle.frames.specs.Buffer.{unfit}
use Rattle.frames.specs.declared.Tag.{Tag}
use Rattle.frames.specs.Record.{Record, memory, variable, size, encode, encode_all}
use Rattle.frames.specs.Trailer.{trailer_size}
use Rattle.frames.proofs.Promises.{length_encode}
use Rattle.reader.specs.Located.{Located, frame, refused, frame_before, walked}
use Rattle.reader.specs.Framed.{FrameRead, frame_read, refused_frame, framed}
use Rattle.reader.specs.Read.{Read, memory_read, variable_read, refused_read, told, record_read, record_in, reading}
use Rattle.reader.proofs.Locating.{Ends, frame_ends}
use Rattle.reader.proofs.Framing.{framed_inside}

-- ---- a step of a walk
fit_ends : (place : ℕ) (b : Bool) (x : Located) → Ends place x → Ends place (cond b (refused (refusal buffer_bad 0)) x)
fit_ends place true x h = tt
fit_ends place false x h = h

walked_ends : (l : List ℕ) (place : ℕ) → Ends place (walked l place)
unfolding walked
walked_ends l place = fit_ends place (unfit l place) (frame_before l place) (frame_ends l place)

pub walked_back : (l : List ℕ) (place : ℕ) {t : Tag} {s n : ℕ} → walked l place ≡ frame t s n → s + n + trailer_size ≡ place
walked_back l place q = rw q at (walked_ends l place)

-- ---- the bytes of a memory record
abbrev Within : ℕ → Read → Type 0
Within end (memory_read t a n p) = p + n ≤ end
Within end (variable_read t i x) = Unit {0}
Within end (refused_read r) = Unit {0}

module _ (end : ℕ) (t : Tag) (s : ℕ) where
  told_within : (o : ℕ) (r : Record) → o + size r ≤ end → Within end (told t o r)
  told_within o (memory a bytes) h = omega arith
  told_within o (variable i x) h = tt

  -- record number i of those from the offset o on
  record_within : (o i : ℕ) (rs : List Record) → o + length (encode_all rs) ≤ end → Within end (record_read t s o i rs)
  unfolding encode_all
  record_within o i [] h = tt
  record_within o zero (r ∷ rs) h = told_within o r (omega (arith, length-append (encode r) (encode_all rs), length_encode r))
  record_within o (suc i) (r ∷ rs) h = record_within (o + size r) i rs (omega (arith, length-append (encode r) (encode_all rs), length_encode r))

module _ (l : List ℕ) (used number i : ℕ) where
  framed_within : (x : FrameRead) → framed l used number ≡ x → Within (length l) (record_in i x)
  framed_within (frame_read t s rs) q = record_within (length l) t s s i rs (omega (arith, framed_inside l used number q))
  framed_within (refused_frame r) q = tt

  read_within : Within (length l) (reading l used number i)
  unfolding reading
  read_within = framed_within (framed l used number) refl

  pub read_inside : {t : Tag} {a n p : ℕ} → reading l used number i ≡ memory_read t a n p → p + n ≤ length l
  read_inside q = rw q at read_within
