-- The words of a refusal, in the code's table. Assumes nothing.
use Prim.Native.Nat.{ℕ, ◌≤◌, ◌<◌}
use mathlib.Core.List.{List, map}
use mathlib.Core.Path.{◌≡◌, sym, ap, ◌∙◌}
use denote.Ref.{Bor}
use lib.ListN.{length, get_or, get_or-eq_default}
use Rattle.std.proofs.Common.{slice_index_or}
use Rattle.std.proofs.Math.ListN.{get_or-map as get_or-map_default}
use Rattle.std.proofs.lemmas.List.{get_or-map, length-map}
use Rattle.text_buffer.specs.Text.{bytes_of}
use Rattle.phrases.specs.Refused.{refusals, refusal_of}

-- the texts xs are the words
module _ (xs : List (Bor (List ℕ))) (same : map (λ x. x.now) xs ≡ map bytes_of refusals) where
  pub words_at : (n : ℕ) (d : Bor (List ℕ)) → n < 26 → (slice_index_or xs n d).now ≡ bytes_of (refusal_of n)
  words_at n d h =
      sym (get_or-map_default (λ (x : Bor (List ℕ)). x.now) xs n d)
      ∙ (ap (λ (l : List (List ℕ)). get_or l n d.now) same ∙ get_or-map bytes_of refusals n "unknown refusal number" d.now h)

  pub words_length : length xs ≡ 26
  words_length = sym (length-map xs (λ (x : Bor (List ℕ)). x.now)) ∙ (ap length same ∙ length-map refusals bytes_of)

-- ---- every number above the last has the words of 0
pub words_beyond : (n : ℕ) → 26 ≤ n → bytes_of "unknown refusal number" ≡ bytes_of (refusal_of n)
words_beyond n h = ap bytes_of (sym (get_or-eq_default refusals "unknown refusal number" {n = n} h))
