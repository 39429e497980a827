-- What some lines set, one after the other. Assumes nothing.
use Rattle.std.specs.Prelude.{ℕ, None, Some, ◌≡◌, refl}
use Rattle.scenario.specs.declared.Keyword.TheVariants.{Image, Memory, Register, Registers, Tracepoint, Buffer, Allowance}
use Rattle.scenario_setting.specs.Settings.{span_setting, buffer, setting, begun, with_span, with_used, lent_with, with_number, with_default}
use Rattle.scenario_setting.specs.declared.Setting.{Setting}

-- image, memory, a run that uses 21 bytes, then `buffer 64`, `register 6 5`, `tracepoint 9`, `allowance 2`
abbrev given : Setting
given =
    let spans = with_used (with_span (with_span begun Image 0x400000 2) Memory 0x1000 3) 21 in
    with_number (with_number (with_number (with_number spans Buffer 0 64) Register 6 5) Tracepoint 0 9) Allowance 0 2

all_set : given ≡ setting 7 (span_setting 0x400000 2) (span_setting 0x1000 3) 9 (buffer 64 0) (Some 2)
unfolding with_span lent_with with_number
all_set = refl

-- `registers 3` lends fewer, `register 1 8` no more; a second image takes the place of the first
set_again :
    with_default (with_span (with_number (with_number given Registers 0 3) Register 1 8) Image 0x10 4)
    ≡ setting 3 (span_setting 0x10 4) (span_setting 0x1000 3) 9 (buffer 64 0) None
unfolding with_span lent_with with_number
set_again = refl
