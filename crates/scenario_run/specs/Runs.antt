-- What a run is given by what is set (the manual, "Running a scenario").
use Rattle.std.specs.Prelude.{ℕ, ◌%◌, List, take, Option, None, Some}
use Rattle.memory.specs.Spans.{target}
use Rattle.machine.specs.Given.{Given, given}
use Rattle.machine.specs.Run.{default_allowance}
use Rattle.scenario_setting.specs.declared.Setting.{Setting}

-- "0 to 65535"
abbrev pub tracepoint_of : Setting → ℕ
tracepoint_of s = s.tracepoint % 65536

-- "any 64-bit number, or the entry without one (1,024)"
abbrev pub allowance_or_default : Option ℕ → ℕ
allowance_or_default None = default_allowance
allowance_or_default (Some steps) = steps

unfoldable pub allowance_of : Setting → ℕ
allowance_of s = allowance_or_default s.allowance

-- the expression e; of the registers, and of the bytes of image and memory, as many as are set
abbrev pub given_by : Setting → List ℕ → List ℕ → List ℕ → List ℕ → List ℕ → List ℕ → Given
given_by s e registers variables image memory buffer =
    given e (take s.registers registers) variables
    (target s.image.first (take s.image.len image) s.memory.first (take s.memory.len memory))
    (tracepoint_of s) buffer s.buffer.used (allowance_of s)
