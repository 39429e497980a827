-- What a loop of steps came to, in the machine's moves. It leaves the cells a, the variables v and the buffer b.
use Rattle.std.specs.Prelude.{List, ◌≡◌, ℕ, ◌+◌, ◌≤◌, ◌<◌, length}
use Rattle.refusals.specs.Refusal.{told}
use Rattle.refusals.specs.declared.Refusal.{Refusal}
use Rattle.sizes.specs.Sizes.{stack_cells}
use Rattle.encoding.specs.Written.{written_at}
use Rattle.isa.specs.Joining.Held.{held}
use Rattle.frames.specs.Record.{Record, encode_all}
use Rattle.frames.specs.Trailer.{trailer_size}
use Rattle.verdict.specs.Verdict.{SetsNothing}
use Rattle.machine.specs.Given.{Given, begin}
use Rattle.machine.specs.Machine.{answer, completed, stopped, Standing, stands, over}
use Rattle.machine.specs.Standing.{standing_from}
use Rattle.operations.specs.declared.Place.{Place}
use Rattle.runner.specs.declared.Went.{Went}
use Rattle.runner.specs.declared.Went.TheVariants.{On, Ended, Refused}

-- after n moves from its beginning the machine stands as s, with these records; where no instruction of the expression
-- is a setv, the variables are as given
pub record Moved (m : Given) (n : ℕ) (s : Standing) (rs : List Record) (a v b : List ℕ) : Type 0 where
  pub within : n ≤ m.allowance
  pub same : standing_from m (stands (begin m)) n ≡ s
  pub laid : b ≡ written_at m.buffer m.used (encode_all rs)
  pub long : length a ≡ stack_cells
  pub unset : SetsNothing m.expression → v ≡ m.variables

-- all the steps are done, and it goes on from the place q
pub record GoesOn (m : Given) (q : Place) (a v b : List ℕ) : Type 0 where
  pub records : List Record
  pub moved : Moved m m.allowance (stands (record { offset = q.at; stack = held a q.height; variables = v; records = records; steps = m.allowance })) records a v b
  pub inside : q.at < length m.expression
  pub low : q.height ≤ stack_cells

-- it has come to an end at the place q, in n steps, and there is room for the trailer
pub record HasEnded (m : Given) (q : Place) (n : ℕ) (a v b : List ℕ) : Type 0 where
  pub records : List Record
  pub moved : Moved m n (over (completed (answer (held a q.height)) n v records)) records a v b
  pub put : q.put ≡ m.used + length (encode_all records)
  pub room : q.put + trailer_size ≤ length m.buffer
  pub low : q.height ≤ stack_cells

-- the instruction after the steps done is refused
pub record IsRefused (m : Given) (x : Refusal) (a v b : List ℕ) : Type 0 where
  pub records : List Record
  pub moved : Moved m (x.steps + 1) (over (stopped (told x) records)) records a v b

abbrev pub Gone : Given → Went → List ℕ → List ℕ → List ℕ → Type 0
Gone m (On q) a v b = GoesOn m q a v b
Gone m (Ended q n) a v b = HasEnded m q n a v b
Gone m (Refused x) a v b = IsRefused m x a v b
