-- An expression with very many walks. Document 01's starred examples, verified and run, are one list in the crate
-- `machine`; the others, and many random expressions, go through the program `verifier_vectors`.
use Rattle.std.specs.Prelude.{Bool, false, ◌&&◌, List, [], ◌∷◌, ℕ, zero, suc, ◌+◌, ◌/◌, ◌%◌, T, eqb}
use Rattle.encoding.specs.BigEndian.{big_endian}
use Rattle.isa.specs.Classes.{opcodes, class_of}
use Rattle.isa.specs.Decode.{operand, picked, needed, left, height_after}
use Rattle.isa.specs.Starts.{starts_at_most, starts_from, is_start}
use Rattle.verdict.specs.Fault.{first}
use Rattle.verdict.specs.Pass1.{fault1}
use Rattle.verdict.specs.Pass2.{fault2}
use Rattle.verdict.specs.Pass3.{arrive, raise, at_target, at_next, runs_off_end, fault3, longer, heights_along, heights0, distances0, pass3}
use Rattle.verdict.specs.Verdict.{Verdict, accepted, refused, after1, after2, after3, verdict}

abbrev same : Verdict → Verdict → Bool
same (accepted n g l) (accepted m h k) = eqb n m && eqb g h && eqb l k
same (accepted n g l) (refused x) = false
same (refused x) (accepted n g l) = false
same (refused x) (refused y) = eqb x.number y.number && eqb x.offset y.offset && eqb x.steps y.steps

-- n conditional jumps from offset i on, each to the next start, then end: 2 to the power of n walks to the end, all of
-- one length
abbrev chain : ℕ → ℕ → List ℕ
chain zero i = 0x27 ∷ []
chain (suc n) i = 0x22 ∷ 0x01 ∷ 0x20 ∷ (i + 5) / 256 ∷ (i + 5) % 256 ∷ chain n (i + 5)

-- the definition computes in time linear in the bytes
pub many_walks : T (same (verdict (chain 60 0)) (accepted 121 1 121))
unfolding verdict after1 after2 after3 pass3 heights0 distances0 heights_along longer fault3 runs_off_end at_next at_target raise arrive fault2 fault1 first is_start starts_from starts_at_most height_after left needed picked operand class_of opcodes big_endian
many_walks = tt
