-- What the lines of a scenario have set (the manual, "Running a scenario"). "What is set stays set for the runs that
-- follow."
use Rattle.std.specs.Prelude.{ℕ, ◌+◌, max, cond, List, ltb, set, Option, Some, None}
use Rattle.sizes.specs.Sizes.{variable_count, registers_most, buffer_most}
use Rattle.scenario.specs.declared.Keyword.{Keyword}
use Rattle.scenario.specs.declared.Keyword.TheVariants.{Image, Register, Variable, Registers, Tracepoint, Allowance}
use Rattle.scenario.specs.declared.Keyword.TheVariants.{Buffer as Keyword·buffer}
use Rattle.scenario_setting.specs.declared.SpanSetting.{SpanSetting}
use Rattle.scenario_setting.specs.declared.Buffer.{Buffer}
use Rattle.scenario_setting.specs.declared.Setting.{Setting}

-- ---- the parts of a setting
abbrev pub span_setting : ℕ → ℕ → SpanSetting
span_setting first long = record { first = first; len = long }

abbrev pub buffer : ℕ → ℕ → Buffer
buffer size used = record { size = size; used = used }

-- registers lent, image, memory, tracepoint, trace buffer, allowance, which is nothing where it is the default
abbrev pub setting : ℕ → SpanSetting → SpanSetting → ℕ → Buffer → Option ℕ → Setting
setting r i m t b a = record { registers = r; image = i; memory = m; tracepoint = t; buffer = b; allowance = a }

-- ---- at the start: no register, empty spans, tracepoint 0, an empty buffer of 65536 bytes, the default allowance
abbrev pub begun : Setting
begun = setting 0 (span_setting 0 0) (span_setting 0 0) 0 (buffer buffer_most 0) None

-- ---- "`image`: the program image: its first address and its bytes"; "`memory`: the working memory, likewise"
unfoldable pub with_span : Setting → Keyword → ℕ → ℕ → Setting
with_span s Image first long = setting s.registers (span_setting first long) s.memory s.tracepoint s.buffer s.allowance
with_span s _ first long = setting s.registers s.image (span_setting first long) s.tracepoint s.buffer s.allowance

-- ---- "`allowance default`: the entry without one"
abbrev pub with_default : Setting → Setting
with_default s = setting s.registers s.image s.memory s.tracepoint s.buffer None

-- ---- "`load`: the used part of the trace buffer from a file"; a completed run: "the used length"
abbrev pub with_used : Setting → ℕ → Setting
with_used s n = setting s.registers s.image s.memory s.tracepoint (buffer s.buffer.size n) s.allowance

-- ---- the lines that set a number: n is that of a register or variable, v the value
-- "`register`: 0 to 255. As many are lent as the highest number set, and one more"; a higher number, which no line has,
-- changes nothing
unfoldable pub lent_with : ℕ → ℕ → ℕ
lent_with n lent = cond (ltb n registers_most) (max lent (n + 1)) lent

-- "`registers`: lends exactly so many"
abbrev pub lent_after : Keyword → ℕ → ℕ → ℕ → ℕ
lent_after Register n v lent = lent_with n lent
lent_after Registers n v lent = v
lent_after _ n v lent = lent

-- "`tracepoint`: 0 to 65535"
abbrev pub tracepoint_after : Keyword → ℕ → ℕ → ℕ
tracepoint_after Tracepoint v t = v
tracepoint_after _ v t = t

-- "`buffer`: an empty trace buffer"
abbrev pub buffer_after : Keyword → ℕ → Buffer → Buffer
buffer_after Keyword·buffer v b = buffer v 0
buffer_after _ v b = b

-- "`allowance`: any 64-bit number"
abbrev pub allowance_after : Keyword → ℕ → Option ℕ → Option ℕ
allowance_after Allowance v a = Some v
allowance_after _ v a = a

unfoldable pub with_number : Setting → Keyword → ℕ → ℕ → Setting
with_number s k n v =
    setting (lent_after k n v s.registers) s.image s.memory (tracepoint_after k v s.tracepoint)
    (buffer_after k v s.buffer) (allowance_after k v s.allowance)

-- ---- the values
-- "`register`: a register, 0 to 255", of as many as there are
unfoldable pub registers_after : Keyword → ℕ → ℕ → List ℕ → List ℕ
registers_after Register n v l = set l n v
registers_after _ n v l = l

-- "`variable`: a trace state variable, 0 to 63"
unfoldable pub variable_set : ℕ → ℕ → List ℕ → List ℕ
variable_set n v l = cond (ltb n variable_count) (set l n v) l

unfoldable pub variables_set : Keyword → ℕ → ℕ → List ℕ → List ℕ
variables_set Variable n v l = variable_set n v l
variables_set _ n v l = l
