-- Inner promises: powers of an element, and polynomials at an element.
--   pow x n        x^n
--   horner f x n   the word f 0, .., f (n - 1) at x, the highest power first: f 0 x^(n - 1) + .. + f (n - 1)
--   value f x n    the polynomial of degree n at x, the highest power first: f 0 x^n + .. + f n
--   low n r y      the lowest power first: r 0 + r 1 y + .. + r (n - 1) y^(n - 1)
--   Distinct w X   X 0, .., X (w - 1) are distinct
use Rattle.std.specs.Prelude.{◌≡◌, ℕ, zero, suc, ◌<◌}
use Rattle.algebra.specs.Field.{BinaryField}
use Rattle.algebra.specs.Sum.{sum}

module _ (K : BinaryField) where
  open K use {carrier as F, add as ◌⊕◌, mul as ◌⊗◌, nil as 𝟘, one as 𝟙}

  infixl 60 ◌⊕◌
  infixl 70 ◌⊗◌
  -- x^0 is one, that of zero too.
  unfoldable pub pow : F → ℕ → F
  pow x zero = 𝟙
  pow x (suc n) = x ⊗ pow x n

  -- By Horner's rule; no coefficients at all are the zero polynomial.
  unfoldable pub horner : (ℕ → F) → F → ℕ → F
  horner f x zero = 𝟘
  horner f x (suc n) = x ⊗ horner f x n ⊕ f n

  -- A polynomial of degree n is a word of n + 1 coefficients.
  unfoldable pub value : (ℕ → F) → F → ℕ → F
  value f x n = horner f x (suc n)

  -- The coefficient of y^p is r p.
  unfoldable pub low : ℕ → (ℕ → F) → F → F
  low n r y = sum K n (λ p. r p ⊗ pow y p)

  -- No two of the first w are equal.
  abbrev pub Distinct : ℕ → (ℕ → F) → Type 0
  Distinct w X = (i j : ℕ) → i < j → j < w → ¬ (X i ≡ X j)
