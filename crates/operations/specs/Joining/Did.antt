-- That a function of the code did what the machine's `Done` says.
use Rattle.std.specs.Prelude.{List, [], ◌∷◌, ◌≡◌, ℕ, ◌+◌, ◌-◌, ◌≤◌, ◌<◌, length, get_or, drop, Result, Ok, Err}
use Rattle.sizes.specs.Sizes.{stack_cells}
use Rattle.refusals.specs.Numbers.{number_or_0}
use Rattle.refusals.specs.declared.Reason.{Reason}
use Rattle.encoding.specs.Written.{written_at}
use Rattle.isa.specs.Classes.{class_of, row}
use Rattle.isa.specs.Joining.Held.{held}
use Rattle.frames.specs.Record.{Record, encode_all}
use Rattle.machine.specs.Meaning.{Done, leaves, faults, stack_after, offset_after}
use Rattle.operations.specs.declared.Place.{Place}

-- ---- of the instruction of e at k, on the stack s
-- 0, or the refusal's number
abbrev pub done_number : Done → ℕ
done_number (leaves cells rs) = 0
done_number (faults n) = n

-- a refused one stays where it is, with the stack as it was
abbrev pub done_offset : List ℕ → ℕ → List ℕ → Done → ℕ
done_offset e k s (leaves cells rs) = offset_after e k s
done_offset e k s (faults n) = k

abbrev pub done_stack : List ℕ → ℕ → List ℕ → Done → List ℕ
done_stack e k s (leaves cells rs) = stack_after e k s cells
done_stack e k s (faults n) = s

abbrev pub done_records : Done → List Record
done_records (leaves cells rs) = rs
done_records (faults n) = []

-- no refusal has the number 0, which tells that there is none
abbrev pub NumberSome : Done → Type 0
NumberSome (leaves cells rs) = Unit {0}
NumberSome (faults n) = 0 < n

-- where the code is after its answer r at the place p: where it is refused, nothing has moved
abbrev pub place_after : Place → Result Place Reason → Place
place_after p (Ok q) = q
place_after p (Err x) = p

-- the instruction of e at the place p, on the stack s and with the buffer b, did d: r is the answer, a are the cells and
-- b' is the buffer then
pub record Did (e : List ℕ) (p : Place) (s b : List ℕ) (d : Done) (r : Result Place Reason) (a b' : List ℕ) : Type 0 where
  pub stop : number_or_0 r ≡ done_number d
  pub at : (place_after p r).at ≡ done_offset e p.at s d
  pub stack : held a (place_after p r).height ≡ done_stack e p.at s d
  pub put : (place_after p r).put ≡ p.put + length (encode_all (done_records d))
  pub buffer : b' ≡ written_at b p.put (encode_all (done_records d))
  pub room : (place_after p r).put ≤ length b
  pub long : length a ≡ stack_cells
  pub some : NumberSome d

-- the same of a function that is not lent the buffer: whatever it holds, it stays as it is
abbrev pub DidCells : List ℕ → Place → List ℕ → Done → Result Place Reason → List ℕ → Type 0
DidCells e p s d r a = (b : List ℕ) → p.put ≤ length b → Did e p s b d r a b

-- one word was put in the place of the cells that the opcode's row needs: from the place p, with the stack s, to the
-- next start q, where a are the cells
pub record PutWord (op w : ℕ) (p : Place) (s : List ℕ) (q : Place) (a : List ℕ) : Type 0 where
  pub at : q.at ≡ p.at + 1 + get_or (row (class_of op)) 0 0
  pub height : q.height ≡ p.height - get_or (row (class_of op)) 1 0 + 1
  pub stack : held a q.height ≡ w ∷ drop (get_or (row (class_of op)) 1 0) s
  pub put : q.put ≡ p.put
  pub long : length a ≡ stack_cells
