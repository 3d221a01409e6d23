-- Inner promises: power series over a field of characteristic 2. A series is the function from index to coefficient; a polynomial is a series
-- that is zero from some index on.
--   cons a f   the series a, f 0, f 1, ..: a + x f
--   shift g f  the series f with g zeros before it: x^g f
--   conv f g   the product of two series
use Rattle.std.specs.Prelude.{ℕ, zero, suc}
use Rattle.algebra.specs.Field.{BinaryField}

module _ (K : BinaryField) where
  open K use {carrier as F, add as ◌⊕◌, mul as ◌⊗◌, nil as 𝟘}

  infixl 60 ◌⊕◌
  infixl 70 ◌⊗◌
  -- a, f 0, f 1, ..
  unfoldable pub cons : F → (ℕ → F) → ℕ → F
  cons a f zero = a
  cons a f (suc n) = f n

  -- g times a zero, then f 0, f 1, ..
  unfoldable pub shift : ℕ → (ℕ → F) → ℕ → F
  shift zero f = f
  shift (suc g) f = cons 𝟘 (shift g f)

  -- The coefficient at n is f 0 g n + f 1 g (n - 1) + .. + f n g 0, here by head and tail of f.
  unfoldable pub conv : (ℕ → F) → (ℕ → F) → ℕ → F
  conv f g zero = f 0 ⊗ g 0
  conv f g (suc n) = f 0 ⊗ g (suc n) ⊕ conv (λ i. f (suc i)) g n
