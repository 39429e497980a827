-- One instruction of the machine as the code tells it apart: it goes on, completes, or is refused.
use Rattle.std.specs.Prelude.{cond, List, [], ◌≡◌, ℕ, ◌+◌, ◌≤◌, length, eqb, leb, Result, Ok, Err}
use Rattle.refusals.specs.Numbers.{number_of, buffer_full}
use Rattle.refusals.specs.declared.Reason.{Reason}
use Rattle.sizes.specs.Sizes.{stack_cells}
use Rattle.encoding.specs.Written.{written_at}
use Rattle.isa.specs.Classes.{kind_end}
use Rattle.isa.specs.Decode.{kind_at}
use Rattle.isa.specs.Joining.Held.{held}
use Rattle.frames.specs.Record.{Record, encode_all}
use Rattle.frames.specs.Trailer.{trailer_size}
use Rattle.machine.specs.Given.{Fixed}
use Rattle.machine.specs.Meaning.{Done, leaves, faults, done, stack_after, variables_after, offset_after}
use Rattle.operations.specs.declared.Place.{Place}
use Rattle.stepping.specs.declared.Stepped.{Stepped}
use Rattle.stepping.specs.declared.Stepped.TheVariants.{On, End}

pub data Effect : Type 0 where
  -- next offset, stack, variables, records made
  goes : ℕ → List ℕ → List ℕ → List Record → Effect
  completes : Effect
  refuses : ℕ → Effect

abbrev pub effect_of : List ℕ → ℕ → List ℕ → List ℕ → Done → Effect
effect_of e k s v (leaves cells rs) =
    cond (eqb (kind_at e k) kind_end) completes (goes (offset_after e k s) (stack_after e k s cells) (variables_after e k s v) rs)
effect_of e k s v (faults n) = refuses n

-- the effect of the instruction at k
unfoldable pub effect : Fixed → ℕ → List ℕ → List ℕ → ℕ → Effect
effect m k s v free = effect_of m.expression k s v (done m k s v free)

-- ---- as the code says it
-- which of the three it is
pub data Came : Type 0 where
  onward : Came
  at_end : Came
  refused : ℕ → Came

abbrev pub came : Effect → Came
came (goes k s v rs) = onward
came completes = at_end
came (refuses n) = refused n

abbrev pub came_by : Result Stepped Reason → Came
came_by (Ok (On q)) = onward
came_by (Ok End) = at_end
came_by (Err x) = refused (number_of x)

-- where the code is after its answer at the place p: it moves only where it goes on
abbrev pub place_after : Place → Result Stepped Reason → Place
place_after p (Ok (On q)) = q
place_after p (Ok End) = p
place_after p (Err x) = p

-- what is so after the effect: the rest is as it was where it does not go on
abbrev pub effect_offset : ℕ → Effect → ℕ
effect_offset i (goes k s v rs) = k
effect_offset i completes = i
effect_offset i (refuses n) = i

abbrev pub effect_stack : List ℕ → Effect → List ℕ
effect_stack s₀ (goes k s v rs) = s
effect_stack s₀ completes = s₀
effect_stack s₀ (refuses n) = s₀

abbrev pub effect_variables : List ℕ → Effect → List ℕ
effect_variables v₀ (goes k s v rs) = v
effect_variables v₀ completes = v₀
effect_variables v₀ (refuses n) = v₀

abbrev pub effect_records : Effect → List Record
effect_records (goes k s v rs) = rs
effect_records completes = []
effect_records (refuses n) = []

-- the code did the effect: from the place p, stack s and variables v, and the buffer b
pub record DidStep (p : Place) (s v b : List ℕ) (e : Effect) (r : Result Stepped Reason) (a v' b' : List ℕ) : Type 0 where
  pub says : came_by r ≡ came e
  pub at : (place_after p r).at ≡ effect_offset p.at e
  pub stack : held a (place_after p r).height ≡ effect_stack s e
  pub put : (place_after p r).put ≡ p.put + length (encode_all (effect_records e))
  pub variables : v' ≡ effect_variables v e
  pub buffer : b' ≡ written_at b p.put (encode_all (effect_records e))
  pub room : (place_after p r).put ≤ length b
  pub long : length a ≡ stack_cells

-- what the code says of an end: it completes where the trailer fits, else 21
abbrev pub DidEnd : ℕ → Result Stepped Reason → Type 0
DidEnd free r = came_by r ≡ cond (leb trailer_size free) at_end (refused buffer_full)

-- what the code says of any other instruction, by what was done
abbrev pub on_of : Result Place Reason → Result Stepped Reason
on_of (Ok q) = Ok (On q)
on_of (Err x) = Err x
