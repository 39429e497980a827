-- Where a frame is: one law for each way out of the code.
use mathlib.Core.Bool.{Bool, true, false, cond}
use mathlib.Core.List.{List}
use mathlib.Core.Path.{◌≡◌, refl, ap, sym, ◌∙◌}
use Prim.Native.Nat.{ℕ, zero, suc, ◌+◌, ◌-◌, ◌≤◌, ◌<◌}
use native.Mathlib.Omega.{arith}
use lib.ListN.{length, take, drop}
use lib.Dec.{leb, ltb, eqb}
use Rattle.std.proofs.Common.{Option, Some, None}
use borrow.Author.Tests.{lt-ltb, le-ltb, le-leb, lt-leb, ne_eqb, leb-true, ltb-false}
use Rattle.sizes.specs.Sizes.{buffer_most}
use Rattle.refusals.specs.Numbers.{buffer_bad, trailer_broken, no_such_frame}
use Rattle.refusals.specs.Refusal.{Refusal, refusal}
use Rattle.frames.specs.Buffer.{unfit}
use Rattle.frames.specs.declared.Tag.{Tag}
use Rattle.frames.specs.Trailer.{trailer_size, TrailerRead, trailer, broken_trailer, decode_trailer}
use Rattle.frames.specs.Joining.Answers.{ending_of}
use Rattle.frames.specs.declared.trailer.Trailer.{Trailer}
use Rattle.frames.proofs.Promises.{is_fit, fit_lengths}
use Rattle.reader.specs.Located.{Located, frame, refused, closed_by, frame_before, older, frame_back, located, walked}

-- ---- the frame that ends at an offset
-- what a trailer says, by the code's answer
abbrev closed_as : ℕ → Option Trailer → Located
closed_as end (Some t) = cond (leb t.length (end - trailer_size)) (frame t.tag (end - trailer_size - t.length) t.length) (refused (refusal trailer_broken end))
closed_as end None = refused (refusal trailer_broken end)

closed_same : (end : ℕ) (d : TrailerRead) → closed_by end d ≡ closed_as end (ending_of d)
closed_same end (trailer t n) = refl
closed_same end broken_trailer = refl

module _ (l : List ℕ) (end : ℕ) where
  pub nothing_left : end ≡ 0 → refused (refusal no_such_frame 0) ≡ frame_before l end
  unfolding frame_before
  nothing_left e = rw e

  module _ (s : 0 < end) where
    not_nothing : eqb end 0 ≡ false
    not_nothing = ne_eqb end 0 (λ e. omega arith)

    pub too_short : end < trailer_size → refused (refusal trailer_broken end) ≡ frame_before l end
    unfolding frame_before
    too_short h = rw (not_nothing, lt-ltb end trailer_size h)

    module _ (h : trailer_size ≤ end) {x : Option Trailer} (e : x ≡ ending_of (decode_trailer (take (end - (end - trailer_size)) (drop (end - trailer_size) l)))) where
      by_trailer : closed_as end x ≡ frame_before l end
      unfolding frame_before
      by_trailer =
          let n : end - (end - trailer_size) ≡ trailer_size = omega arith in
          rw (not_nothing, le-ltb end trailer_size h, e, n)
          (sym (closed_same end (decode_trailer (take trailer_size (drop (end - trailer_size) l)))))

      pub no_trailer : x ≡ None → refused (refusal trailer_broken end) ≡ frame_before l end
      no_trailer g = rw g at by_trailer

      pub too_long : {t : Trailer} → x ≡ Some t → end - trailer_size < t.length → refused (refusal trailer_broken end) ≡ frame_before l end
      too_long {t} g b = rw (g, lt-leb t.length (end - trailer_size) b) at by_trailer

      pub frame_there : {t : Trailer} → x ≡ Some t → t.length ≤ end - trailer_size → frame t.tag (end - trailer_size - t.length) t.length ≡ frame_before l end
      frame_there {t} g b = rw (g, le-leb t.length (end - trailer_size) b) at by_trailer

-- ---- what is known of a frame that was found: its records, then its trailer, end there
abbrev pub Ends : ℕ → Located → Type 0
Ends end (frame t s n) = s + n + trailer_size ≡ end
Ends end (refused r) = Unit {0}

ends_by : (end : ℕ) (b : Bool) (t : Tag) (n : ℕ) → leb n (end - trailer_size) ≡ b → trailer_size ≤ end → Ends end (cond b (frame t (end - trailer_size - n) n) (refused (refusal trailer_broken end)))
ends_by end true t n e h = let k = leb-true n (end - trailer_size) e in omega arith
ends_by end false t n e h = tt

closed_ends : (end : ℕ) (d : TrailerRead) → trailer_size ≤ end → Ends end (closed_by end d)
closed_ends end (trailer t n) h = ends_by end (leb n (end - trailer_size)) t n refl h
closed_ends end broken_trailer h = tt

short_by : (end : ℕ) (b : Bool) (x : Located) → ltb end trailer_size ≡ b → (trailer_size ≤ end → Ends end x) → Ends end (cond b (refused (refusal trailer_broken end)) x)
short_by end true x e f = tt
short_by end false x e f = f (ltb-false end trailer_size e)

none_by : (end : ℕ) (b : Bool) (x : Located) → Ends end x → Ends end (cond b (refused (refusal no_such_frame 0)) x)
none_by end true x h = tt
none_by end false x h = h

pub frame_ends : (l : List ℕ) (end : ℕ) → Ends end (frame_before l end)
unfolding frame_before
frame_ends l end =
    none_by end (eqb end 0) _ (short_by end (ltb end trailer_size) _ refl (closed_ends end (decode_trailer (take trailer_size (drop (end - trailer_size) l)))))

pub frame_end : (l : List ℕ) (end : ℕ) {t : Tag} {s n : ℕ} → frame t s n ≡ frame_before l end → s + n + trailer_size ≡ end
frame_end l end e = rw (← e) at (frame_ends l end)

-- ---- the walker's step
module _ (l : List ℕ) (place : ℕ) where
  pub walked_unfit : unfit l place ≡ true → refused (refusal buffer_bad 0) ≡ walked l place
  unfolding walked
  walked_unfit e = rw e

  pub walked_fit : unfit l place ≡ false → frame_before l place ≡ walked l place
  unfolding walked
  walked_fit e = rw e

-- ---- the frame of a number: frame `number` from `used` on is frame `left` from `end` on
pub record Back (l : List ℕ) (used number end left : ℕ) : Type 0 where
  pub same : located l used number ≡ frame_back l left end
  pub within : end ≤ length l
  pub small : length l ≤ buffer_most

module _ (l : List ℕ) (used number : ℕ) where
  pub located_unfit : unfit l used ≡ true → refused (refusal buffer_bad 0) ≡ located l used number
  unfolding located
  located_unfit e = rw e

  pub back_begins : length l ≤ buffer_most → used ≤ length l → Back l used number used number
  unfolding located
  back_begins h k = record { same = rw (is_fit l used h k); within = k; small = h }

refused_back : (l : List ℕ) (n end : ℕ) {r : Refusal} → refused r ≡ frame_before l end → refused r ≡ frame_back l n end
unfolding frame_back
refused_back l zero end e = e
refused_back l (suc n) end e = ap (older (λ s. frame_back l n s)) e

module _ {l : List ℕ} {used number end left : ℕ} (b : Back l used number end left) where
  pub back_refused : {r : Refusal} → refused r ≡ frame_before l end → refused r ≡ located l used number
  back_refused e = refused_back l left end e ∙ sym b.same

  pub back_last : left ≡ 0 → frame_before l end ≡ located l used number
  unfolding frame_back
  back_last e = sym (b.same ∙ ap (λ n. frame_back l n end) e)

  one_back : 0 < left → located l used number ≡ older (λ s. frame_back l (left - 1) s) (frame_before l end)
  unfolding frame_back
  one_back h = let q : left ≡ suc (left - 1) = omega arith in b.same ∙ ap (λ n. frame_back l n end) q

  pub back_again : 0 < left → {t : Tag} {s n : ℕ} → frame t s n ≡ frame_before l end → Back l used number s (left - 1)
  back_again h e = record {
    same = one_back h ∙ ap (older (λ s. frame_back l (left - 1) s)) (sym e);
    within = omega (arith, frame_end l end e, b.within);
    small = b.small;
  }

-- ---- what is known of a frame that was located: it ends where the walk began, or before
unfoldable pub Upto : ℕ → Located → Type 0
Upto end (frame t s n) = s + n + trailer_size ≤ end
Upto end (refused r) = Unit {0}

upto_from : (end : ℕ) (x : Located) → Ends end x → Upto end x
unfolding Upto
upto_from end (frame t s n) e = omega arith
upto_from end (refused r) e = tt

upto_more : (m n : ℕ) (x : Located) → m ≤ n → Upto m x → Upto n x
unfolding Upto
upto_more m n (frame t s k) h w = omega (arith, w)
upto_more m n (refused r) h w = tt

older_upto : (go : ℕ → Located) (end : ℕ) → ((s : ℕ) → Upto s (go s)) → (x : Located) → Ends end x → Upto end (older go x)
unfolding Upto
older_upto go end f (frame t s n) e = upto_more s end (go s) (omega arith) (f s)
older_upto go end f (refused r) e = tt

pub back_upto : (l : List ℕ) (number end : ℕ) → Upto end (frame_back l number end)
unfolding frame_back
back_upto l zero end = upto_from end (frame_before l end) (frame_ends l end)
back_upto l (suc number) end = older_upto (λ s. frame_back l number s) end (λ s. back_upto l number s) (frame_before l end) (frame_ends l end)

abbrev Inside : List ℕ → Located → Type 0
Inside l (frame t s n) = (s + n + trailer_size ≤ length l) × (length l ≤ buffer_most)
Inside l (refused r) = Unit {0}

inside_by : (l : List ℕ) (end : ℕ) (x : Located) → length l ≤ buffer_most → end ≤ length l → Upto end x → Inside l x
unfolding Upto
inside_by l end (frame t s n) h k w = (omega (arith, w), h)
inside_by l end (refused r) h k w = tt

fit_by : (l : List ℕ) (used : ℕ) (b : Bool) (x : Located) → unfit l used ≡ b → Upto used x → Inside l (cond b (refused (refusal buffer_bad 0)) x)
fit_by l used true x e w = tt
fit_by l used false x e w = inside_by l used x (fit_lengths l used e).0 (fit_lengths l used e).1 w

located_in : (l : List ℕ) (used number : ℕ) → Inside l (located l used number)
unfolding located
located_in l used number = fit_by l used (unfit l used) _ refl (back_upto l number used)

pub located_inside : (l : List ℕ) (used number : ℕ) {t : Tag} {s n : ℕ} → frame t s n ≡ located l used number → (s + n + trailer_size ≤ length l) × (length l ≤ buffer_most)
located_inside l used number e = rw (← e) at (located_in l used number)

-- ---- the trailer at an offset
abbrev pub trailer_at : List ℕ → ℕ → TrailerRead
trailer_at l k = decode_trailer (take trailer_size (drop k l))

-- ---- what holds of 15, 22 and 24 and of each frame that a trailer closes holds of all that a search and a walk give
module _ (P : Located → Type 0) (l : List ℕ) (h15 : P (refused (refusal buffer_bad 0))) (h22 : (end : ℕ) → P (refused (refusal trailer_broken end)))
    (h24 : P (refused (refusal no_such_frame 0)))
    (closes : (end : ℕ) (t : Tag) (n : ℕ) → trailer_at l (end - trailer_size) ≡ trailer t n → n ≤ end - trailer_size → P (frame t (end - trailer_size - n) n)) where
  either : (b : Bool) (x y : Located) → P x → P y → P (cond b x y)
  either true x y h k = h
  either false x y h k = k

  closed_if : (end : ℕ) (t : Tag) (n : ℕ) → trailer_at l (end - trailer_size) ≡ trailer t n
      → (b : Bool) → leb n (end - trailer_size) ≡ b → P (cond b (frame t (end - trailer_size - n) n) (refused (refusal trailer_broken end)))
  closed_if end t n e true h = closes end t n e (leb-true n (end - trailer_size) h)
  closed_if end t n e false h = h22 end

  closed_in : (end : ℕ) (d : TrailerRead) → trailer_at l (end - trailer_size) ≡ d → P (closed_by end d)
  closed_in end (trailer t n) e = closed_if end t n e (leb n (end - trailer_size)) refl
  closed_in end broken_trailer e = h22 end

  before_in : (end : ℕ) → P (frame_before l end)
  unfolding frame_before
  before_in end = either (eqb end 0) _ _ h24 (either (ltb end trailer_size) _ _ (h22 end) (closed_in end _ refl))

  older_in : (go : ℕ → Located) (x : Located) → ((s : ℕ) → P (go s)) → P x → P (older go x)
  older_in go (frame t s n) f h = f s
  older_in go (refused r) f h = h

  back_in : (number end : ℕ) → P (frame_back l number end)
  unfolding frame_back
  back_in zero end = before_in end
  back_in (suc number) end = older_in (λ s. frame_back l number s) (frame_before l end) (back_in number) (before_in end)

  pub located_all : (used number : ℕ) → P (located l used number)
  unfolding located
  located_all used number = either (unfit l used) _ _ h15 (back_in number used)

  pub walked_all : (place : ℕ) → P (walked l place)
  unfolding walked
  walked_all place = either (unfit l place) _ _ h15 (before_in place)

-- a frame that was located is closed by its trailer
abbrev Closed : List ℕ → Located → Type 0
Closed l (frame t s n) = trailer_at l (s + n) ≡ trailer t n
Closed l (refused r) = Unit {0}

pub located_closed : (l : List ℕ) (used number : ℕ) {t : Tag} {s n : ℕ} → frame t s n ≡ located l used number
    → trailer_at l (s + n) ≡ trailer t n
located_closed l used number e =
    let all = located_all (Closed l) l tt (λ end. tt) tt
    (λ end t n d h. let q : end - trailer_size - n + n ≡ end - trailer_size = omega arith in rw q d) used number in
    rw (← e) at all
