-- Joining the laws of the passes: what each verdict means, and that what it means decides it.
use mathlib.Core.List.{List, [], ◌∷◌}
use mathlib.Core.Path.{◌≡◌, refl, ap, sym, ◌∙◌}
use mathlib.Core.Logic.{inl, inr, ⊎_elim}
use Prim.Native.Nat.{ℕ, ◌≤◌, ◌<◌}
use native.Mathlib.Omega.{arith}
use lib.ListN.{length}
use Rattle.refusals.specs.Refusal.{Refusal, refusal}
use Rattle.isa.specs.Decode.{height_after}
use Rattle.isa.specs.Starts.{starts}
use Rattle.isa.specs.Walk.{Walk, stop, weigh, one}
use Rattle.logic.proofs.Promises.{cases}
use Rattle.refusals.proofs.Promises.{tried_most}
use Rattle.isa.proofs.Promises.{start_in, start_zero, walk_last, weigh_one}
use Rattle.verdict.specs.Fault.{Fault, none, fault}
use Rattle.verdict.specs.Pass1.{tests1, fault1, pass1, Decodes}
use Rattle.verdict.specs.Pass2.{tests2, fault2, pass2, Aims}
use Rattle.verdict.specs.Pass3.{Pass3End, done, stopped, pass3, heaviest, longest_in}
use Rattle.verdict.specs.Verdict.{accepted, refused, after1, after2, after3, verdict}
use Rattle.verdict.specs.Acceptance.{Sized, WalksFit, Acceptable, GreatestHeight, ToEnd, MostIs, Accepted, Ready, WithinLongest, Shows, two_heights, cells_lack, cells_exceed, walk_leaves, Broken, OneHeight, Justified, of_size, of_pass1, of_pass2, of_pass3, Means}
use Rattle.verdict.proofs.Decoded.{clear_holds, fault_plain, fault_first, decodes_fits, decodes_known, decodes_ext, decodes_variable}
use Rattle.verdict.proofs.Cases.{verdict_empty, verdict_long, verdict_sized, verdict_1, verdict_2, verdict_3}
use Rattle.verdict.proofs.Sound.{walks_fit_done, walks_fit_stopped, stopped_plain, one_height_stopped, greatest_most, heaviest_most}
use Rattle.verdict.proofs.Complete.{broken, greatest_seen, heaviest_seen}
use Rattle.verdict.proofs.Endings.{ends, some_end}

module _ (e : List ℕ) where
  -- ---- each number is one
  pub one_greatest : {g h : ℕ} → GreatestHeight e g → GreatestHeight e h → g ≡ h
  one_greatest x y =
      let a = x.reached in
      let b = y.reached in
      omega (arith, a.4, b.4, (y.most a.3).1, (x.most b.3).1)

  pub one_most : {μ : List ℕ → ℕ} {l m : ℕ} → MostIs μ e l → MostIs μ e m → l ≡ m
  one_most x y = omega (arith, x.number, y.number, x.shown.most y.shown.to_end, y.shown.most x.shown.to_end)

  -- the same, measured otherwise
  most_same : {μ ν : List ℕ → ℕ} {l : ℕ} → ((w : List ℕ) → μ w ≡ ν w) → MostIs μ e l → MostIs ν e l
  most_same same x = record {
    list = x.list;
    shown = record { to_end = x.shown.to_end; most = λ {v} t. omega (arith, same v, same x.list, x.shown.most t) };
    number = sym (same x.list) ∙ x.number;
  }

  -- ---- pass 3 of an expression for which passes 1 and 2 hold
  module _ (z : Sized e) (d : Decodes e) (a : Aims e) (f : ℕ → ℕ) {hs ds : List ℕ} {g l : ℕ} (p : pass3 f e ≡ done hs ds g l) where
    done_acceptable : Acceptable e
    done_acceptable = record { sized = z; decodes = d; aims = a; walks = walks_fit_done f e z.short a p }

    done_greatest : GreatestHeight e g
    done_greatest =
        let begin = stop (start_zero e z.some) in
        record {
          reached =
              ⊎_elim (λ (q : g ≡ 0). (0 ∷ [], 0, 0, begin, omega (arith, (greatest_most f e z.short a p begin).1))) (λ r. r)
              (greatest_seen f e z.some z.short a p);
          most = greatest_most f e z.short a p;
        }

    most_of : (w : List ℕ) → ToEnd e w → weigh f w ≡ l → MostIs (weigh f) e l
    most_of w t q = record {
      list = w;
      shown = record { to_end = t; most = λ v. omega (arith, heaviest_most f e z.short a p v) };
      number = q;
    }

    -- where the weight found is 0, so is that of any walk to an end, and there is one
    done_most : MostIs (weigh f) e l
    done_most =
        ⊎_elim
        (λ (q : l ≡ 0). let x = some_end e (walks_fit_done f e z.short a p) a z.some in
        most_of x.list x.to_end (omega (arith, heaviest_most f e z.short a p x.to_end)))
        (λ r. most_of r.0 r.1 r.2)
        (heaviest_seen f e z.some z.short a p)

  -- where every walk fits, nothing shows a refusal
  never_shown : {n k r : ℕ} {lists : List (List ℕ)} → WalksFit e n → k < n → Shows e k r lists → ⊥
  never_shown s i (two_heights q _ v w n) = n (s.one_height v w i)
  never_shown s i (cells_lack q _ w h) = omega (arith, s.cells w i)
  never_shown s i (cells_exceed q _ w c h) = omega (arith, s.room w i)
  never_shown s i (walk_leaves q _ w c h t m) = omega (arith, s.stays w i t)

  shown_start : {k r : ℕ} {lists : List (List ℕ)} → Shows e k r lists → k < length e
  shown_start {k} (two_heights q _ v w n) = start_in e k (walk_last w)
  shown_start {k} (cells_lack q _ w h) = start_in e k (walk_last w)
  shown_start {k} (cells_exceed q _ w c h) = start_in e k (walk_last w)
  shown_start {k} (walk_leaves q _ w c h t m) = start_in e k (walk_last w)

  never_broken : {k r : ℕ} → Acceptable e → Broken e k r → ⊥
  never_broken s b = never_shown s.walks (shown_start b.1) b.1

  -- ---- every case of the verdict
  module _ (z : Sized e) where
    means3 : Decodes e → Aims e → (o : Pass3End) → pass3 one e ≡ o → Means e (after3 e o)
    unfolding after3
    means3 d a (done hs ds g l) p = record {
      acceptable = done_acceptable z d a one p;
      count = refl;
      height = done_greatest z d a one p;
      longest = most_same weigh_one (done_most z d a one p);
    }
    means3 d a (stopped x) p =
        of_pass3 (stopped_plain one e z.short a p) z d a (broken one e z.some z.short a d p) (one_height_stopped one e z.short a p)
        (walks_fit_stopped one e z.short a p)

    means2 : Decodes e → (f : Fault) → pass2 e ≡ f → Means e (after2 e f)
    unfolding after2
    means2 d none p = means3 d ((clear_holds (fault2 e) e).0 p) (pass3 one e) refl
    means2 d (fault x) p = let q = fault_plain (fault2 e) e p in of_pass2 q z d ((fault_first (fault2 e) e).0 (p ∙ ap fault q))

    means1 : (f : Fault) → pass1 e ≡ f → Means e (after1 e f)
    unfolding after1
    means1 none p = means2 ((clear_holds (fault1 e) e).0 p) (pass2 e) refl
    means1 (fault x) p = let q = fault_plain (fault1 e) e p in of_pass1 q z ((fault_first (fault1 e) e).0 (p ∙ ap fault q))

  -- every verdict is true
  pub verdict_means : Means e (verdict e)
  verdict_means =
      cases 0 (length e)
      (λ some. cases 1024 (length e)
      (λ long. rw (← verdict_long e long) (of_size refl (inr long)))
      (λ short. rw (verdict_sized e some short) (means1 (record { some = some; short = short }) (pass1 e) refl)))
      (λ none. let z : length e ≡ 0 = omega arith in rw (← verdict_empty e z) (of_size refl (inl z)))

  -- ---- what fits is accepted
  abbrev IsDone : Pass3End → Type 0
  IsDone o = (hs : List ℕ) × (ds : List ℕ) × (g : ℕ) × (l : ℕ) × (o ≡ done hs ds g l)

  ends_done : (f : ℕ → ℕ) → Acceptable e → (o : Pass3End) → pass3 f e ≡ o → IsDone o
  ends_done f s (done hs ds g l) p = (hs, ds, g, l, refl)
  ends_done f s (stopped x) p = absurd (never_broken s (broken f e s.sized.some s.sized.short s.aims s.decodes p))

  pub fits_accepted : Acceptable e → (n : ℕ) × (g : ℕ) × (l : ℕ) × (verdict e ≡ accepted n g l)
  unfolding after3
  fits_accepted s =
      let d = ends_done one s (pass3 one e) refl in
      (length (starts e), d.2, d.3, verdict_3 e s.sized.some s.sized.short s.decodes s.aims ∙ ap (after3 e) d.4)

  pub accepted_verdict : {n g l : ℕ} → Accepted e n g l → verdict e ≡ accepted n g l
  accepted_verdict {n} {g} {l} s =
      let x = fits_accepted s.acceptable in
      let y : Accepted e x.0 x.1 x.2 = rw x.3 at verdict_means in
      let p : x.0 ≡ n = y.count ∙ sym s.count in
      let q : x.1 ≡ g = one_greatest y.height s.height in
      let r : x.2 ≡ l = one_most y.longest s.longest in
      cc

  -- over any weight, pass 3 finds the most that a walk to an end weighs
  pub fits_most : (f : ℕ → ℕ) → Acceptable e → MostIs (weigh f) e (heaviest f e)
  unfolding longest_in
  fits_most f s =
      let d = ends_done f s (pass3 f e) refl in
      rw (ap longest_in d.4) (done_most s.sized s.decodes s.aims f d.4)

  -- ---- what a refusal says is true of that refusal alone
  -- at one instruction
  one_number : {k r s : ℕ} {lists others : List (List ℕ)} → (8 < r → OneHeight e k) → (8 < s → OneHeight e k) → Shows e k r lists → Shows e k s others → r ≡ s
  one_number o c (two_heights p _ v w n) (two_heights q _ _ _ _) = p ∙ sym q
  one_number o c (two_heights p _ v w n) (cells_lack q _ _ _) = absurd (n ((c (omega arith)).same v w))
  one_number o c (two_heights p _ v w n) (cells_exceed q _ _ _ _) = absurd (n ((c (omega arith)).same v w))
  one_number o c (two_heights p _ v w n) (walk_leaves q _ _ _ _ _ _) = absurd (n ((c (omega arith)).same v w))
  one_number o c (cells_lack p _ _ _) (two_heights q _ v w n) = absurd (n ((o (omega arith)).same v w))
  one_number o c (cells_lack p _ _ _) (cells_lack q _ _ _) = p ∙ sym q
  one_number o c (cells_lack p _ v h) (cells_exceed q _ w i _) = absurd (omega (arith, (o (omega arith)).same v w))
  one_number o c (cells_lack p _ v h) (walk_leaves q _ w i _ _ _) = absurd (omega (arith, (o (omega arith)).same v w))
  one_number o c (cells_exceed p _ _ _ _) (two_heights q _ v w n) = absurd (n ((o (omega arith)).same v w))
  one_number o c (cells_exceed p _ v h _) (cells_lack q _ w i) = absurd (omega (arith, (o (omega arith)).same v w))
  one_number o c (cells_exceed p _ _ _ _) (cells_exceed q _ _ _ _) = p ∙ sym q
  one_number {k} o c (cells_exceed p _ v _ h) (walk_leaves q _ w _ i _ _) = absurd (omega (arith, ap (height_after e k) ((o (omega arith)).same v w)))
  one_number o c (walk_leaves p _ _ _ _ _ _) (two_heights q _ v w n) = absurd (n ((o (omega arith)).same v w))
  one_number o c (walk_leaves p _ v h _ _ _) (cells_lack q _ w i) = absurd (omega (arith, (o (omega arith)).same v w))
  one_number {k} o c (walk_leaves p _ v _ h _ _) (cells_exceed q _ w _ i) = absurd (omega (arith, ap (height_after e k) ((o (omega arith)).same v w)))
  one_number o c (walk_leaves p _ _ _ _ _ _) (walk_leaves q _ _ _ _ _ _) = p ∙ sym q

  -- what shows a refusal of pass 3 at k, where no lower instruction has one
  record Late (r k : ℕ) : Type 0 where
    shown : Broken e k r
    one_height : 8 < r → OneHeight e k
    before : WalksFit e k

  one_late : {r k s j : ℕ} → Late r k → Late s j → refused (refusal r k) ≡ refused (refusal s j)
  one_late {r} {k} {s} {j} x y =
      cases k j (λ h. absurd (never_shown y.before h x.shown.1))
      (λ g. cases j k (λ h. absurd (never_shown x.before h y.shown.1))
      (λ h. let q : j ≡ k = omega arith in let t : r ≡ s = one_number x.one_height (rw q at y.one_height) x.shown.1 (rw q at y.shown.1) in rw (q, t) refl))

  late_verdict : {r k : ℕ} → Sized e → Decodes e → Aims e → Late r k → (o : Pass3End) → pass3 one e ≡ o → after3 e o ≡ refused (refusal r k)
  unfolding after3
  late_verdict z d a x (done hs ds g l) p = absurd (never_broken (done_acceptable z d a one p) x.shown)
  late_verdict z d a x (stopped y) p =
      ap refused (stopped_plain one e z.short a p)
      ∙ one_late
      (record {
        shown = broken one e z.some z.short a d p;
        one_height = one_height_stopped one e z.short a p;
        before = walks_fit_stopped one e z.short a p;
      })
      x

  pub refused_verdict : {x : Refusal} → Justified e x → verdict e ≡ refused x
  refused_verdict (of_size p s) =
      ⊎_elim (λ (z : length e ≡ 0). rw p (sym (verdict_empty e z))) (λ (z : 1024 < length e). rw p (sym (verdict_long e z))) s
  refused_verdict (of_pass1 {r} {k} p z y) = rw p (sym (verdict_1 e z.some z.short (refusal r k) ((fault_first (fault1 e) e).1 y)))
  refused_verdict (of_pass2 {r} {k} p z d y) = rw p (sym (verdict_2 e z.some z.short d (refusal r k) ((fault_first (fault2 e) e).1 y)))
  refused_verdict (of_pass3 p z d a b o w) =
      rw p (verdict_3 e z.some z.short d a ∙ late_verdict z d a (record { shown = b; one_height = o; before = w }) (pass3 one e) refl)

  -- ---- the numbers of refusals: those of passes 1 and 2 are at most 7
  fault1_most : (k : ℕ) → fault1 e k ≤ 7
  unfolding fault1
  fault1_most k = tried_most 7 (tests1 e k) tt

  fault2_most : (k : ℕ) → fault2 e k ≤ 7
  unfolding fault2
  fault2_most k = tried_most 7 (tests2 e k) tt

  shown_number : {k r : ℕ} {lists : List (List ℕ)} → Shows e k r lists → (8 ≤ r) × (r ≤ 11)
  shown_number (two_heights q _ _ _ _) = (omega arith, omega arith)
  shown_number (cells_lack q _ _ _) = (omega arith, omega arith)
  shown_number (cells_exceed q _ _ _ _) = (omega arith, omega arith)
  shown_number (walk_leaves q _ _ _ _ _ _) = (omega arith, omega arith)

  pub justified_number : {x : Refusal} → Justified e x → (1 ≤ x.number) × (x.number ≤ 11)
  justified_number (of_size p s) = rw p (omega arith, omega arith)
  justified_number (of_pass1 {r} {k} p z y) = rw p (y.faulty, omega (arith, y.number, fault1_most k))
  justified_number (of_pass2 {r} {k} p z d y) = rw p (y.faulty, omega (arith, y.number, fault2_most k))
  justified_number (of_pass3 p z d a b o w) = let n = shown_number b.1 in rw p (omega arith, n.1)

  -- a refusal of an expression comes before any step
  pub justified_plain : {x : Refusal} → Justified e x → x ≡ refusal x.number x.offset
  justified_plain (of_size p s) = rw p refl
  justified_plain (of_pass1 p z y) = rw p refl
  justified_plain (of_pass2 p z d y) = rw p refl
  justified_plain (of_pass3 p z d a b o w) = rw p refl

  -- a refusal from 8 up is pass 3's
  pub late_broken : {x : Refusal} → Justified e x → 8 ≤ x.number → Broken e x.offset x.number × WalksFit e x.offset × (8 < x.number → OneHeight e x.offset)
  late_broken (of_size p s) = rw p (λ h. absurd (omega arith))
  late_broken (of_pass1 {r} {k} p z y) = rw p (λ h. absurd (omega (arith, y.number, fault1_most k)))
  late_broken (of_pass2 {r} {k} p z d y) = rw p (λ h. absurd (omega (arith, y.number, fault2_most k)))
  late_broken (of_pass3 p z d a b o w) = rw p (λ h. (b, w, o))

  -- ---- the last instruction of a walk
  module _ {n g l : ℕ} (s : Accepted e n g l) {w : List ℕ} {j u : ℕ} (x : Walk e 0 0 w j u) where
    pub walk_ready : Ready e j u
    unfolding height_after
    walk_ready =
        let a = s.acceptable in
        let i : j < length e = start_in e j (walk_last x) in
        let r = s.height.reached in
        record {
          inside = decodes_fits e j a.decodes (walk_last x);
          known = decodes_known e j a.decodes (walk_last x);
          ext_some = decodes_ext e j a.decodes (walk_last x);
          variable_low = decodes_variable e j a.decodes (walk_last x);
          cells = a.walks.cells x i;
          low = omega (arith, (s.height.most x).0, r.4, a.walks.room r.3 (start_in e r.1 (walk_last r.3)));
          room = a.walks.room x i;
        }

    pub walk_within : WithinLongest e l w j
    walk_within =
        let a = s.acceptable in
        let t = ends e a.walks a.aims x in
        let m : length t.list ≤ l = omega (arith, s.longest.number, s.longest.shown.most t.to_end) in
        record { short = omega (arith, t.long); shorter = λ q. omega (arith, t.longer q) }
