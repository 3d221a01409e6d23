-- Inner promises: the key equation of a word of bits, whose power sums at even exponents are squares: every second discrepancy is zero.
--   slope f                     the formal derivative of f
--   Squares S n                 S_(2 i + 1) is the square of S_i, below n
--   BinaryState S k L b C T     `State` before an even term k, and that the products with S are derivatives as far as k
use Rattle.std.specs.Prelude.{◌≡◌, ℕ, zero, suc, ◌+◌, ◌<◌}
use Rattle.algebra.specs.Field.{BinaryField}
use Rattle.algebra.specs.Series.{conv}
use Rattle.algebra.specs.Recurrence.{State}

module _ (K : BinaryField) where
  open K use {carrier as F, add as ◌⊕◌, mul as ◌⊗◌, nil as 𝟘}

  infixl 60 ◌⊕◌
  infixl 70 ◌⊗◌
  -- f 1, 0, f 3, 0, ..: in characteristic 2 the even powers have the derivative zero.
  unfoldable pub slope : (ℕ → F) → ℕ → F
  slope f zero = f 1
  slope f (suc zero) = 𝟘
  slope f (suc (suc n)) = slope (λ i. f (suc (suc i))) n

  -- S_j is the power sum of the exponent j + 1, and the power sum of twice an exponent is the square.
  abbrev pub Squares : (ℕ → F) → ℕ → Type 0
  Squares S n = (i : ℕ) → suc (i + i) < n → S (suc (i + i)) ≡ S i ⊗ S i

  -- The half of k is given, so that k is even.
  pub record BinaryState (S : ℕ → F) (half L : ℕ) (b : F) (C T : ℕ → F) : Type 0 where
    pub state : State K S (half + half) L b C T
    pub product : (j : ℕ) → j < half + half → conv K C S j ≡ slope C j
    pub update : (j : ℕ) → j < half + half → conv K T S j ≡ slope T j
    pub hit : conv K T S (half + half) ≡ slope T (half + half) ⊕ b
