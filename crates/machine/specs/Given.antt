-- What a run is given, and what the machine holds (document 01, "Running").
use Rattle.std.specs.Prelude.{List, [], ℕ, ◌-◌, length}
use Rattle.memory.specs.Spans.{Target, target_of}
use Rattle.frames.specs.Record.{Record, encode_all}
use Rattle.machine.specs.declared.Fixed as code
use Rattle.machine.specs.declared.Inputs.{Inputs}

-- "Demand 3's machine is fed what the run is given: expression, registers, variables, spans, tracepoint number, buffer,
-- used length, allowance."
pub record Given : Type 0 where
  pub expression : List ℕ
  pub registers : List ℕ
  pub variables : List ℕ
  pub target : Target
  pub tracepoint : ℕ
  pub buffer : List ℕ
  pub used : ℕ
  pub allowance : ℕ

abbrev pub given : List ℕ → List ℕ → List ℕ → Target → ℕ → List ℕ → ℕ → ℕ → Given
given e r v t p b u a = record {
  expression = e;
  registers = r;
  variables = v;
  target = t;
  tracepoint = p;
  buffer = b;
  used = u;
  allowance = a;
}

-- What an instruction reads and none changes.
pub record Fixed : Type 0 where
  pub expression : List ℕ
  pub registers : List ℕ
  pub target : Target

abbrev pub fixed : List ℕ → List ℕ → Target → Fixed
fixed e r t = record { expression = e; registers = r; target = t }

abbrev pub fixed_of : Given → Fixed
fixed_of g = fixed g.expression g.registers g.target

-- "Otherwise it holds an offset, a stack, the variables, the records made and the steps done." The top of the stack
-- comes first.
pub record State : Type 0 where
  pub offset : ℕ
  pub stack : List ℕ
  pub variables : List ℕ
  pub records : List Record
  pub steps : ℕ

-- "They begin as 0, empty, as given, none and 0."
abbrev pub begin : Given → State
begin g = record { offset = 0; stack = []; variables = g.variables; records = []; steps = 0 }

-- "Free are the buffer's bytes past the used length and the records made."
abbrev pub free_of : Given → State → ℕ
free_of g st = length g.buffer - g.used - length (encode_all st.records)

-- ---- what the code's structs stand for
abbrev pub fixed_by : code.Fixed → Fixed
fixed_by f = fixed f.code.now f.registers.now (target_of f.memory.target)

-- inputs, variables, buffer and allowance
abbrev pub given_by : Inputs → List ℕ → List ℕ → ℕ → Given
given_by i v b a = given i.code.now i.registers.now v (target_of i.target) i.tracepoint b i.used a
