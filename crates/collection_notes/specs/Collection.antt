-- Whether an expression records, and which registers GDB wanted collected beside it.
use Rattle.std.specs.Prelude.{ℕ, ◌+◌, ◌*◌, ◌/◌, ◌%◌, ◌^◌, ◌<◌, ◌≡◌, Bool, false, cond, not, ◌&&◌, ◌||◌, List, [], ◌∷◌, eqb, length, get_or}
use Rattle.isa.specs.Starts.{starts}

-- one of ks satisfies p
abbrev pub any_of : (ℕ → Bool) → List ℕ → Bool
any_of p [] = false
any_of p (k ∷ ks) = p k || any_of p ks

-- what a test answers at each offset of the expression e is what p says there
abbrev pub Tests : (ℕ → Bool → Type 0) → List ℕ → (ℕ → Bool) → Type 0
Tests answers e p = (k : ℕ) (is : Bool) → k < length e → answers k is → is ≡ p k

-- the instructions that record: trace, trace_quick, tracev, tracenz, trace16
unfoldable pub is_tracing : ℕ → Bool
is_tracing op = eqb op 0x0c || (eqb op 0x0d || (eqb op 0x2e || (eqb op 0x2f || eqb op 0x30)))

-- some instruction of the expression e records
unfoldable pub collects : List ℕ → Bool
collects e = any_of (λ k. is_tracing (get_or e k 0)) (starts e)

-- the instruction at k is `reg r`
unfoldable pub reads_at : List ℕ → ℕ → ℕ → Bool
reads_at e r k = eqb (get_or e k 0) 0x26 && eqb (get_or e (k + 1) 0 * 256 + get_or e (k + 2) 0) r

unfoldable pub reads_register : List ℕ → ℕ → Bool
reads_register e r = any_of (reads_at e r) (starts e)

-- bit j of a byte, counted from the lowest
unfoldable pub is_set : ℕ → ℕ → Bool
is_set b j = eqb (b / 2 ^ j % 2) 1

-- GDB's `Reg mask:` has 8 registers a byte, from register 0 on, each byte's first at its lowest bit
unfoldable pub is_in_mask : List ℕ → ℕ → Bool
is_in_mask m r = is_set (get_or m (r / 8) 0) (r % 8)

-- GDB puts into the mask m the registers to be collected and those that the expression e reads. One that e does not read
-- was to be collected; where e is meant to collect, GDB collects all of them (a)
unfoldable pub is_wanted : List ℕ → List ℕ → Bool → ℕ → Bool
is_wanted m e a r = cond (is_in_mask m r) (a || not (reads_register e r)) false
