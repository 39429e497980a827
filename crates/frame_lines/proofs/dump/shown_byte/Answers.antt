use Rattle.std.proofs.Common.{arith}
use Rattle.frame_lines.proofs.Dumping.{shown_low, shown_itself, shown_high}
use Rattle.frame_lines.proofs.dump.shown_byte.Goals as goal

pub returns-in-32-to-126 : goal.returns-in-32-to-126
returns-in-32-to-126 c = shown_itself _ (omega arith) (omega arith)

pub returns-in_default : goal.returns-in_default
returns-in_default c = shown_low _ (omega arith)

pub returns-in_default-2 : goal.returns-in_default-2
returns-in_default-2 c = shown_high _ (omega arith)
