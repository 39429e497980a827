-- What users of `listing` may cite. The contracts of src/ are the rest.
use mathlib.Core.Bool.{true}
use mathlib.Core.List.{List, [], ◌∷◌, ◌++◌}
use mathlib.Core.Path.{◌≡◌, refl, sym, ap, ◌∙◌}
use Prim.Native.Nat.{ℕ, ◌+◌, ◌-◌, ◌^◌, ◌≤◌, ◌<◌}
use lib.Dec.{T}
use Rattle.std.proofs.Common.{Ok}
use lib.ListN.{length, take, drop, replicate}
use Rattle.hexadecimal.specs.Hex.{is_blank}
use Rattle.text_buffer.specs.Decimal.{decimal}
use Rattle.encoding.specs.Ranges.{AllBytes}
use Rattle.encoding.specs.Written.{written_at}
use Rattle.isa.specs.Classes.{kind, class_of, kind_unsupported}
use Rattle.isa.specs.Decode.{operand_bytes, next}
use Rattle.isa.specs.Starts.{starts}
use Rattle.instruction_text.specs.Text.{text_of, text_at, is_instruction}
use Rattle.instruction_text.proofs.Promises.{instructed, row_parts}
use Rattle.listing.specs.Line.{instruction, operands_of, read_line, line_bytes}
use Rattle.listing.specs.Meant.{is_heading, meant}
use Rattle.listing.specs.Listing.{listing, all_instructions, bytes, fault, read_lines, lines_of, listing_text, read_text}
use Rattle.listing.specs.Whole.{wrong_line, outcome}
use Rattle.listing.specs.declared.reading.LineFault.{LineFault}
use Rattle.listing.proofs.Behind as behind
use Rattle.listing.proofs.Inverse as inverse
use Rattle.listing.proofs.Plain as plain
use Rattle.listing.proofs.Outcomes as outcomes
-- `Feedless l`: the text l has no line feed.
pub use Rattle.listing.proofs.Behind.{Feedless}

-- the text of a supported instruction with an operand that fits is read back as it
pub text_read_back : (at op v : ℕ) → at < 2 ^ 64 → kind_unsupported < kind (class_of op) → v < 256 ^ operands_of op
    → read_line at (text_of at op (operands_of op) v) ≡ instruction op (operands_of op) v
unfolding text_of is_blank
text_read_back at op v h s f =
    ap (read_line at) (sym (row_parts at op (operands_of op) v (10 ∷ []))) ∙ inverse.line_back (10 ∷ []) tt op (operands_of op) v (plain.good_name op s) refl (inverse.word_low op v f) f at h

-- and so is the line a, which is that text without its line feed, with n spaces and a comment behind it
pub row_read_back : (at op v : ℕ) → at < 2 ^ 64 → kind_unsupported < kind (class_of op) → v < 256 ^ operands_of op
    → (a : List ℕ) → a ++ (10 ∷ []) ≡ text_of at op (operands_of op) v
    → (n : ℕ) (t : List ℕ) → meant at (a ++ (replicate n 32 ++ (35 ∷ t))) ≡ instruction op (operands_of op) v
row_read_back at op v h s f = inverse.comment_back op (operands_of op) v (plain.good_name op s) refl (inverse.word_low op v f) f at h

-- `AllBytes` holds of every slice of bytes that is lent: the contract of `encoding::bytes_known`, `lent_bytes` on the
-- page of the demands.

-- the text of an instruction of an expression is read back as its bytes
pub instruction_read_back : (e : List ℕ) → AllBytes e → (k : ℕ) → k < 2 ^ 64 → is_instruction e k ≡ true
    → line_bytes (read_line k (text_at e k)) ≡ take (1 + operand_bytes e k) (drop k e)
instruction_read_back e low k h i = ap line_bytes (inverse.instruction_back e low k (instructed e k i) h) ∙ inverse.instruction_bytes e low k (instructed e k i)

-- and the listing of an expression as the expression
pub listing_read_back : (e : List ℕ) → AllBytes e → length e < 2 ^ 64 → T (all_instructions e (starts e)) → read_lines 1 0 (listing e) ≡ bytes e
unfolding listing
listing_read_back e low h t = inverse.listing_back e low 0 h t 1

-- as one text
pub listing_text_read_back : (e : List ℕ) → AllBytes e → length e < 2 ^ 64 → T (all_instructions e (starts e)) → read_text (listing_text e) ≡ bytes e
listing_text_read_back e low h t = inverse.text_back e low h t

-- ---- a text read line by line
pub feedless_append : (a b : List ℕ) → Feedless a → Feedless b → Feedless (a ++ b)
feedless_append = behind.feedless_append

pub feedless_number : (n : ℕ) → Feedless (decimal n)
feedless_number = behind.feedless_number

-- a heading before the text r
pub heading_then : (l : List ℕ) → Feedless l → is_heading (l ++ (10 ∷ [])) ≡ true → (m i : ℕ) (r b : List ℕ)
    → read_lines (m + 1) i (lines_of r) ≡ bytes b → read_lines m i (lines_of (l ++ (10 ∷ []) ++ r)) ≡ bytes b
heading_then = behind.heading_then

-- the text of an instruction of an expression without its line feed, n spaces and a comment t, before the text r
pub row_then : (e : List ℕ) → AllBytes e → (k : ℕ) → k < 2 ^ 64 → is_instruction e k ≡ true
    → (n : ℕ) (t : List ℕ) → Feedless t → (m : ℕ) (r : List ℕ) → read_lines (m + 1) (next e k) (lines_of r) ≡ bytes (drop (next e k) e)
    → read_lines m k (lines_of (take (length (text_at e k) - 1) (text_at e k) ++ replicate n 32 ++ ((35 ∷ t) ++ (10 ∷ [])) ++ r)) ≡ bytes (drop k e)
row_then e low k h i = behind.row_then e low k h (instructed e k i)

-- ---- what `read_listing` answers and leaves where the text has no fault, and the buffer has room
pub text_outcome : (t o b : List ℕ) → read_text t ≡ bytes b → length b ≤ length o → outcome t o ≡ record { answer = Ok (length b); left = written_at o 0 b }
text_outcome = outcomes.text_right

-- where it answers with a number of bytes, those in the buffer are the text's; where it names a line with a fault, the
-- text has it there first
pub answered_bytes : (t o : List ℕ) (k : ℕ) → (outcome t o).answer ≡ Ok k → k ≤ length o → read_text t ≡ bytes (take k (outcome t o).left)
answered_bytes = outcomes.told_right

pub answered_wrong : (t o : List ℕ) (n : ℕ) (f : LineFault) (c : ℕ) → (outcome t o).answer ≡ wrong_line n f c → read_text t ≡ fault n f c
answered_wrong = outcomes.told_wrong
