-- Laws of what an expression contains, for the proofs of `collects` and `reads_register`. Assumes nothing.
use Prim.Native.Nat.{ℕ, ◌≤◌, ◌<◌}
use mathlib.Core.Bool.{Bool, true, false, ◌||◌}
use mathlib.Core.List.{List}
use mathlib.Core.Path.{◌≡◌, refl, sym, ap, ◌∙◌}
use lib.ListN.{length}
use Rattle.isa.specs.Decode.{next}
use Rattle.isa.specs.Starts.{starts, starts_from}
use Rattle.isa.proofs.Promises.{from_end, from_next}
use Rattle.collection_notes.specs.Collection.{any_of}

-- ---- a loop over the starts: none before k satisfies p
pub record Looking (p : ℕ → Bool) (e : List ℕ) (k : ℕ) : Type 0 where
  pub rest : any_of p (starts e) ≡ any_of p (starts_from e k)

pub looking_start : (p : ℕ → Bool) (e : List ℕ) → Looking p e 0
looking_start p e = record { rest = refl }

module _ {p : ℕ → Bool} {e : List ℕ} {k : ℕ} (l : Looking p e k) where
  pub looking_end : length e ≤ k → false ≡ any_of p (starts e)
  looking_end h = sym (l.rest ∙ ap (any_of p) (from_end e k h))

  module _ (h : k < length e) where
    here : any_of p (starts e) ≡ p k || any_of p (starts_from e (next e k))
    here = l.rest ∙ ap (any_of p) (from_next e k h)

    pub looking_found : p k ≡ true → true ≡ any_of p (starts e)
    looking_found q = sym (here ∙ ap (λ (b : Bool). b || any_of p (starts_from e (next e k))) q)

    pub looking_on : p k ≡ false → Looking p e (next e k)
    looking_on q = record { rest = here ∙ ap (λ (b : Bool). b || any_of p (starts_from e (next e k))) q }
