-- Counting the zeros of a run: by the ones of a number, chunk by chunk, up to a limit.
use mathlib.Core.Path.{◌≡◌, sym, ap, ap₂, ◌∙◌}
use mathlib.Core.Bool.{Bool, true, false}
use mathlib.Core.List.{[], ◌∷◌}
use Prim.Native.Nat.{ℕ, ◌+◌, ◌-◌, ◌/◌, ◌^◌, ◌≤◌, ◌<◌}
use native.Mathlib.Omega.{arith}
use native.Mathlib.Decide.{dec_lt}
use lib.ListN.{length}
use lib.Count as count
use lib.Count.{ones_cat, ones-ones}
use borrow.Author.Tests.{lt-ltb, le-ltb}
use Rattle.bits.specs.Bits.{run, digit, number}
use Rattle.bits.proofs.Numbers.{number_lt}
use Rattle.bits.proofs.Runs.{run_length, run-append}
use Rattle.bits.proofs.Pages.{number-run-high}
use Rattle.code.specs.Word.{Word, ones, zeros, zeros_to}
use Rattle.code.proofs.Zeros.{zeros-ones, zeros-append}
use Rattle.zeros.specs.Counting.{chunk}

digit_ones : (b : Bool) → count.ones (digit b) ≡ digit b
unfolding digit
digit_ones true = ones-ones 1
digit_ones false = ones-ones 0

-- The set digits of a number are the ones of its word.
number-ones : (w : Word) → count.ones (number w) ≡ ones w
unfolding number ones
number-ones [] = ones-ones 0
number-ones (b ∷ w) = ones_cat (length w) (digit b) (number w) (number_lt w) ∙ ap₂ ◌+◌ (digit_ones b) (number-ones w)

module _ (f : ℕ → Bool) where
  -- The first n of 64 bits: their ones are the set digits of the 64, shifted.
  word_count : (p n : ℕ) {x : ℕ} → n ≤ 64 → x ≡ number (run f p 64) → count.ones (x / 2 ^ (64 - n)) ≡ ones (run f p n)
  word_count p n l e =
      let k : 64 ≡ n + (64 - n) = omega arith in
      ap count.ones (ap (λ y. y / 2 ^ (64 - n)) (e ∙ ap (λ i. number (run f p i)) k) ∙ number-run-high f p n (64 - n)) ∙ number-ones (run f p n)

  pub word-zeros : (p n : ℕ) {x : ℕ} → n ≤ 64 → x ≡ number (run f p 64) → n - count.ones (x / 2 ^ (64 - n)) ≡ zeros (run f p n)
  word-zeros p n l e = omega (arith, word_count p n l e, zeros-ones (run f p n), run_length f p n)

  pub word_ones : (p n : ℕ) {x : ℕ} → n ≤ 64 → x ≡ number (run f p 64) → count.ones (x / 2 ^ (64 - n)) ≤ n
  word_ones p n l e = omega (arith, word_count p n l e, zeros-ones (run f p n), run_length f p n)

  pub run-zeros-le : (p n : ℕ) → zeros (run f p n) ≤ n
  run-zeros-le p n = omega (arith, zeros-ones (run f p n), run_length f p n)

  -- one chunk more
  pub zeros-next : (p i k : ℕ) {x y q : ℕ} → x ≡ zeros (run f p i) → q ≡ p + i → y ≡ zeros (run f q k) → x + y ≡ zeros (run f p (i + k))
  zeros-next p i k ex eq ey =
      ap₂ ◌+◌ ex (ey ∙ ap (λ q. zeros (run f q k)) eq) ∙ sym (ap zeros (run-append f p i k) ∙ zeros-append (run f p i) (run f (p + i) k))

  -- the limit was reached before the end
  pub limit-reached : (p i n limit : ℕ) {x : ℕ} → x ≡ zeros (run f p i) → i ≤ n → limit ≤ x → limit ≡ zeros_to limit (run f p n)
  unfolding zeros_to
  limit-reached p i n limit {x} e l h =
      let k : i + (n - i) ≡ n = omega arith in
      let s : zeros (run f p n) ≡ zeros (run f p i) + zeros (run f (p + i) (n - i)) =
      ap (λ j. zeros (run f p j)) (sym k) ∙ ap zeros (run-append f p i (n - i)) ∙ zeros-append (run f p i) (run f (p + i) (n - i)) in
      rw (le-ltb (zeros (run f p n)) limit (omega arith))

  -- all were counted
  pub limit-below : (p n limit : ℕ) {x : ℕ} → x ≡ zeros (run f p n) → x < limit → x ≡ zeros_to limit (run f p n)
  unfolding zeros_to
  limit-below p n limit e h = e ∙ rw (lt-ltb (zeros (run f p n)) limit (omega arith))

chunk-within : (n : ℕ) → 0 < n → (0 < chunk n) × (chunk n ≤ 64) × (chunk n ≤ n)
unfolding chunk
chunk-within n h = elim (dec_lt n 64) [
  | yes l ↦ rw (lt-ltb n 64 l) (h, omega arith, omega arith)
  | no l ↦ rw (le-ltb n 64 (omega arith)) (omega arith, omega arith, omega arith)
]

pub chunk-bounds : (n : ℕ) {k : ℕ} → 0 < n → k ≡ chunk n → (0 < k) × (k ≤ 64) × (k ≤ n)
chunk-bounds n h e = rw e (chunk-within n h)
