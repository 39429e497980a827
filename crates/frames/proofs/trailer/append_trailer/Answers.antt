use native.Mathlib.Omega.{arith}
use Rattle.frames.proofs.Fitting.{leaves_none, lent}
use Rattle.frames.proofs.trailer.append_trailer.Goals as goal

pub returns-then-buffer-used : goal.returns-then-buffer-used
returns-then-buffer-used c = leaves_none _ _ _ _ (omega arith)

pub returns : goal.returns
returns c = lent _ _ _ _ c.if-buffer-used.false c.write_trailer.ensures
