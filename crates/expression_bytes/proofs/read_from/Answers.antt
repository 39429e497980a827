use Prim.Native.Nat.{ℕ}
use mathlib.Core.List.{List}
use mathlib.Core.Path.{refl, ap, ◌∙◌}
use lib.ListN.{length}
use Rattle.encoding.proofs.Promises.{part_lent}
use Rattle.hexadecimal.specs.Hex.{reading_of, written_over}
use Rattle.hexadecimal.specs.Told.{hex_answer_of}
use Rattle.expression_bytes.proofs.read_from.Goals as goal

pub returns : goal.returns
returns c = let a = c.args in let q = part_lent a.text.now a.start in let n = length a.out.now in record { start_is = refl; answer_is = c.decode-answer.ensures.answer ∙ ap (λ (l : List ℕ). hex_answer_of (reading_of l n)) q; bytes_is = c.decode-answer.ensures.bytes ∙ ap (λ (l : List ℕ). written_over a.out.now (reading_of l n)) q; fitting_is = c.is_fitting-fitting.ensures; within = c.decode-answer.ensures.within }
