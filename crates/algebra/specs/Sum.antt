-- Inner promises: finite sums over a field of characteristic 2.
--   sum n f   f 0 + .. + f (n - 1)
use Rattle.std.specs.Prelude.{ℕ, zero, suc}
use Rattle.algebra.specs.Field.{BinaryField}

module _ (K : BinaryField) where
  open K use {carrier as F, add as ◌⊕◌, nil as 𝟘}

  infixl 60 ◌⊕◌
  -- The sum of no terms is zero.
  unfoldable pub sum : ℕ → (ℕ → F) → F
  sum zero f = 𝟘
  sum (suc n) f = sum n f ⊕ f n
