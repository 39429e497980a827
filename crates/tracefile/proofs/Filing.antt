-- Laws of the pieces of a trace file, for the proofs of the functions of `head` and `body`. Assumes nothing.
use Rattle.std.proofs.Common.{◌≡◌, ℕ, ◌+◌, ◌-◌, ◌%◌, ◌^◌, ◌<◌, ◌≤◌, List, ◌++◌, length, take, drop, sym, refl, ap, ◌∙◌, append_assoc, mod-lt, div-add-mod', arith, lit<, length-append, take_all}
use native.Mathlib.Nat.{pow-le-pow_right}
use Rattle.io.specs.Digits.{last_digits, IsDigitCount}
use Rattle.text_buffer.specs.Text.{Text, bytes_of}
use Rattle.encoding.specs.LittleEndian.{little_bytes}
use Rattle.encoding.specs.Written.{written_at}
use Rattle.logic.proofs.Promises.{cases}
use Rattle.encoding.proofs.Promises.{length_little, written_read}
use Rattle.text_buffer.specs.Decimal.{decimal}
use Rattle.frames.specs.Record.{memory, variable, encode}
use Rattle.phrases.specs.Numbers.{hex_text}
use Rattle.phrases.proofs.Promises.{digits_length}
use Rattle.tracefile.specs.Head.{name_text}

-- ---- a number one higher, where 2^64 is written as 0 is
wraps : (f : ℕ → List ℕ) → f 0 ≡ f (2 ^ 64) → (n m : ℕ) → n < 2 ^ 64 → m ≡ (n + 1) % 2 ^ 64 → f m ≡ f (n + 1)
wraps f z n m h e =
    let q = div-add-mod' (n + 1) (2 ^ 64) in
    let r : (n + 1) % 2 ^ 64 < 2 ^ 64 = mod-lt (n + 1) (lit< tt) in
    cases (n + 1) (2 ^ 64)
    (λ l. ap f (omega (arith, q, r, e, l)))
    (λ g.
    let is : n + 1 ≡ 2 ^ 64 = omega (arith, h, g) in
    let none : m ≡ 0 = omega (arith, q, r, e, is) in
    ap f none ∙ z ∙ ap f (sym is))

pub next_hex : (n m : ℕ) → n < 2 ^ 64 → m ≡ (n + 1) % 2 ^ 64 → hex_text m ≡ hex_text (n + 1)
unfolding hex_text
next_hex = wraps hex_text refl

pub next_variable : (v n m : ℕ) → n < 2 ^ 64 → m ≡ (n + 1) % 2 ^ 64 → encode (variable m v) ≡ encode (variable (n + 1) v)
unfolding encode little_bytes
next_variable v = wraps (λ (x : ℕ). encode (variable x v)) refl

-- ---- the bytes of a number, by way of a small array
pub little_part : (count v : ℕ) (b b' : List ℕ) → b' ≡ written_at b 0 (little_bytes count v) → length b ≡ 8 → count ≤ 8 → take (count - 0) b' ≡ little_bytes count v
little_part count v b b' w long h =
    let e = little_bytes count v in
    let n = length_little count v in
    let j : count - 0 ≡ length e = omega (arith, n) in
    ap (λ (k : ℕ). take k b') j ∙ ap (take (length e)) w ∙ written_read b 0 e (omega (arith, n, h, long))

-- ---- the bytes of a record
pub memory_parts : (a : ℕ) (l : List ℕ) → bytes_of "M" ++ little_bytes 8 a ++ little_bytes 2 (length l) ++ l ≡ encode (memory a l)
unfolding encode
memory_parts a l =
    append_assoc (bytes_of "M" ++ little_bytes 8 a) (little_bytes 2 (length l)) l ∙ append_assoc (bytes_of "M") (little_bytes 8 a) (little_bytes 2 (length l) ++ l)

pub variable_parts : (n v : ℕ) → bytes_of "V" ++ little_bytes 4 n ++ little_bytes 8 v ≡ encode (variable n v)
unfolding encode
variable_parts n v = append_assoc (bytes_of "V") (little_bytes 4 n) (little_bytes 8 v)

pub bytes_part : (l : List ℕ) (a n p : ℕ) → encode (memory a (take (p + n - p) (drop p l))) ≡ encode (memory a (take n (drop p l)))
bytes_part l a n p = let e : p + n - p ≡ n = omega arith in ap (λ (j : ℕ). encode (memory a (take j (drop p l)))) e

-- ---- a name fits a small array whole
few : (v k : ℕ) → v < 2 ^ 64 → IsDigitCount 10 1 v k → k ≤ 20
few v k h w =
    cases 20 k
    (λ g. absurd (omega (arith, h, w.2 (omega (arith, g)), pow-le-pow_right (lit< {m = 0} {n = 10} tt) {i = 20} {j = k - 1} (omega (arith, g)))))
    (λ l. l)

pub named : (b : List ℕ) (n v k : ℕ) → length b ≡ 24 → v < 2 ^ 64 → IsDigitCount 10 1 v k → Text b n (bytes_of "v" ++ last_digits 10 k v) → Text b n (bytes_of "v" ++ decimal v)
    → take n b ≡ name_text v
unfolding name_text
named b n v k long h w t u =
    let d = length-append (bytes_of "v") (last_digits 10 k v) in
    let s = digits_length 10 k v in
    let m = few v k h w in
    let inside : n < length b = omega (arith, t.most, d, s, m, long) in
    u.same ∙ take_all n (bytes_of "v" ++ decimal v) (omega (arith, u.all inside))
