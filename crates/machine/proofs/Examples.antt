-- The starred examples of document 01, with those that the requests of document 02 add, verified and run: one
-- statement over one list. "Working memory at 4096 holds 41 00 42; tracepoint 7"; no registers, no variable set, a
-- buffer of 32 bytes with none used, and the allowance of an entry without one. The other examples, and many random
-- runs, go through a program.
use Rattle.std.specs.Prelude.{List, [], ◌∷◌, ◌++◌, map, ◌≡◌, refl, ℕ, ◌^◌, ◌-◌, replicate}
use Rattle.encoding.specs.BigEndian.{big_endian, big_bytes}
use Rattle.encoding.specs.LittleEndian.{little_bytes}
use Rattle.isa.specs.Classes.{opcodes, class_of}
use Rattle.isa.specs.Decode.{operand, picked, needed, left, height_after}
use Rattle.isa.specs.Starts.{starts_at_most, starts_from, is_start}
use Rattle.arithmetic.specs.Words.{div_signed, inserted, lsh, rsh_signed, rsh_unsigned, ext}
use Rattle.refusals.specs.Refusal.{refusal, refusal_after}
use Rattle.memory.specs.Spans.{target, ends_past, share_address}
use Rattle.memory.specs.Fetch.{holds_range, readable, fetch_refusal, fetched, rest_of}
use Rattle.memory.specs.FirstZero.{searched}
use Rattle.frames.specs.Record.{memory, encode, encode_all}
use Rattle.frames.specs.Trailer.{encode_trailer}
use Rattle.frames.specs.Frame.{encode_frame}
use Rattle.verdict.specs.Fault.{first}
use Rattle.verdict.specs.Pass1.{fault1}
use Rattle.verdict.specs.Pass2.{fault2}
use Rattle.verdict.specs.Pass3.{arrive, raise, at_target, at_next, runs_off_end, fault3, longer, heights_along, heights0, distances0, pass3}
use Rattle.verdict.specs.Verdict.{Verdict, accepted, refused, after1, after2, after3, verdict}
use Rattle.machine.specs.Given.{Given, given}
use Rattle.machine.specs.Words.{binary_word, zero_divisor}
use Rattle.machine.specs.Recording.{fitting, range_made, to_zero_made}
use Rattle.machine.specs.Meaning.{binary_done, end_done, done, stack_after, variables_after, offset_after}
use Rattle.machine.specs.Machine.{Ended, completed, stopped, no_value, top, top_and_beneath, moves}
use Rattle.machine.specs.Run.{input_refusal, ended, default_allowance, left_bytes}

-- no variable set
abbrev unset : List ℕ
unset = replicate 64 0

-- what is given beside the expression
abbrev inputs : List ℕ → Given
inputs e = given e [] unset (target 0 [] 4096 (0x41 ∷ 0x00 ∷ 0x42 ∷ [])) 7 (replicate 32 0) 0 default_allowance

-- what the verifier says, how a run ends, and the bytes that it writes
abbrev pub run : List ℕ → Verdict × (Ended × List ℕ)
run e =
    let o = ended (inputs e) in
    (verdict e, (o, left_bytes (inputs e) o))

-- the trailer of a frame with no records, of tracepoint 7
abbrev alone : List ℕ
alone = 0x46 ∷ 0x00 ∷ 0x07 ∷ 0x00 ∷ 0x00 ∷ 0x00 ∷ 0x00 ∷ 0x00 ∷ []

-- the word of −n
abbrev minus : ℕ → ℕ
minus n = 2 ^ 64 - n

-- a, b and the shift: a shifted by b bits is r
abbrev shift : ℕ → ℕ → ℕ → ℕ → List ℕ × (Verdict × (Ended × List ℕ))
shift op a b r = (
  0x25 ∷ big_bytes 8 a ++ 0x25 ∷ big_bytes 8 b ++ op ∷ 0x27 ∷ [],
  (accepted 4 2 4, (completed (top r) 4 unset [], alone)),
)

unfoldable pub starred : List (List ℕ × (Verdict × (Ended × List ℕ)))
starred =
    ([], (refused (refusal 1 0), (stopped (refusal 1 0) [], [])))
    ∷ (0x27 ∷ [], (accepted 1 0 1, (completed no_value 1 unset [], alone)))
    ∷ (0x22 ∷ 0x05 ∷ 0x22 ∷ 0x03 ∷ 0x02 ∷ 0x27 ∷ [], (accepted 4 2 4, (completed (top 8) 4 unset [], alone)))
    ∷ (0x22 ∷ 0x01 ∷ 0x20 ∷ 0x00 ∷ 0x08 ∷ 0x22 ∷ 0x07 ∷ 0x27 ∷ 0x27 ∷ [], (accepted 5 1 4, (completed no_value 3 unset [], alone)))
    ∷ (0x22 ∷ 0x01 ∷ 0x20 ∷ 0x00 ∷ 0x07 ∷ 0x22 ∷ 0x07 ∷ 0x27 ∷ [], (refused (refusal 8 7), (stopped (refusal 8 7) [], [])))
    ∷ (0x21 ∷ 0x00 ∷ 0x00 ∷ [], (refused (refusal 7 0), (stopped (refusal 7 0) [], [])))
    ∷ (0x21 ∷ 0x00 ∷ 0x03 ∷ [], (refused (refusal 6 0), (stopped (refusal 6 0) [], [])))
    ∷ (0x22 ∷ 0x01 ∷ [], (refused (refusal 11 0), (stopped (refusal 11 0) [], [])))
    ∷ (0x22 ∷ 0x09 ∷ 0x32 ∷ 0x01 ∷ 0x27 ∷ [], (refused (refusal 9 2), (stopped (refusal 9 2) [], [])))
    ∷ (0x22 ∷ 0x09 ∷ 0x32 ∷ 0x00 ∷ 0x27 ∷ [], (accepted 3 2 3, (completed (top_and_beneath 9 9) 3 unset [], alone)))
    ∷ (0x22 ∷ 0x80 ∷ 0x16 ∷ 0x08 ∷ 0x27 ∷ [], (accepted 3 1 3, (completed (top (2 ^ 64 - 128)) 3 unset [], alone)))
    ∷ (0x25 ∷ 0x80 ∷ 0x00 ∷ 0x00 ∷ 0x00 ∷ 0x00 ∷ 0x00 ∷ 0x00 ∷ 0x00 ∷ 0x22 ∷ 0x01 ∷ 0x16 ∷ 0x01 ∷ 0x05 ∷ 0x27 ∷ [], (accepted 5 2 5, (completed (top (2 ^ 63)) 5 unset [], alone)))
    ∷ (0x22 ∷ 0x01 ∷ 0x22 ∷ 0x00 ∷ 0x05 ∷ 0x27 ∷ [], (accepted 4 2 4, (stopped (refusal_after 17 4 2) [], [])))
    ∷ (
      0x23 ∷ 0x10 ∷ 0x00 ∷ 0x0d ∷ 0x02 ∷ 0x27 ∷ [],
      (
        accepted 3 1 3,
        (
          completed (top 4096) 3 unset (memory 4096 (0x41 ∷ 0x00 ∷ []) ∷ []),
          0x4d ∷ 0x00 ∷ 0x10 ∷ 0x00 ∷ 0x00 ∷ 0x00 ∷ 0x00 ∷ 0x00 ∷ 0x00 ∷ 0x02 ∷ 0x00 ∷ 0x41 ∷ 0x00 ∷ 0x46 ∷ 0x00 ∷ 0x07 ∷ 0x00 ∷ 0x0d ∷ 0x00 ∷ 0x00 ∷ 0x00 ∷ [],
        ),
      ),
    )
    ∷ (0x23 ∷ 0x10 ∷ 0x00 ∷ 0x0d ∷ 0x04 ∷ 0x27 ∷ [], (accepted 3 1 3, (stopped (refusal_after 19 3 1) [], [])))
    ∷ (
      0x23 ∷ 0x10 ∷ 0x00 ∷ 0x22 ∷ 0x03 ∷ 0x2f ∷ 0x27 ∷ [],
      (
        accepted 4 2 4,
        (
          completed no_value 4 unset (memory 4096 (0x41 ∷ 0x00 ∷ []) ∷ []),
          0x4d ∷ 0x00 ∷ 0x10 ∷ 0x00 ∷ 0x00 ∷ 0x00 ∷ 0x00 ∷ 0x00 ∷ 0x00 ∷ 0x02 ∷ 0x00 ∷ 0x41 ∷ 0x00 ∷ 0x46 ∷ 0x00 ∷ 0x07 ∷ 0x00 ∷ 0x0d ∷ 0x00 ∷ 0x00 ∷ 0x00 ∷ [],
        ),
      ),
    )
    -- M-100: "Add 63, 64, 65 and 2^64 − 1 to the examples": lsh, rsh_signed, rsh_unsigned, the top bit 0 and 1
    ∷ shift 0x09 3 63 (2 ^ 63) ∷ shift 0x09 3 64 0 ∷ shift 0x09 3 65 0 ∷ shift 0x09 3 (minus 1) 0
    ∷ shift 0x09 (minus 3) 63 (2 ^ 63) ∷ shift 0x09 (minus 3) 64 0 ∷ shift 0x09 (minus 3) 65 0 ∷ shift 0x09 (minus 3) (minus 1) 0
    ∷ shift 0x0a 3 63 0 ∷ shift 0x0a 3 64 0 ∷ shift 0x0a 3 65 0 ∷ shift 0x0a 3 (minus 1) 0
    ∷ shift 0x0a (minus 3) 63 (minus 1) ∷ shift 0x0a (minus 3) 64 (minus 1) ∷ shift 0x0a (minus 3) 65 (minus 1) ∷ shift 0x0a (minus 3) (minus 1) (minus 1)
    ∷ shift 0x0b 3 63 0 ∷ shift 0x0b 3 64 0 ∷ shift 0x0b 3 65 0 ∷ shift 0x0b 3 (minus 1) 0
    ∷ shift 0x0b (minus 3) 63 1 ∷ shift 0x0b (minus 3) 64 0 ∷ shift 0x0b (minus 3) 65 0 ∷ shift 0x0b (minus 3) (minus 1) 0
    ∷ []

pub examples : map (λ (c : List ℕ × (Verdict × (Ended × List ℕ))). run c.0) starred ≡ map (λ (c : List ℕ × (Verdict × (Ended × List ℕ))). c.1) starred
unfolding starred ended input_refusal left_bytes ends_past share_address verdict after1 after2 after3 pass3 heights0 distances0 heights_along longer fault3 runs_off_end at_next at_target raise arrive fault2 fault1 first is_start starts_from starts_at_most height_after left needed picked operand class_of opcodes big_endian big_bytes moves done binary_done end_done stack_after variables_after offset_after binary_word zero_divisor div_signed inserted lsh rsh_signed rsh_unsigned ext range_made to_zero_made fitting holds_range readable fetch_refusal fetched rest_of searched encode encode_all encode_trailer encode_frame little_bytes
examples = refl
