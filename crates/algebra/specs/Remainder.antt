-- Inner promises: remainders over a field.
-- The remainder of a word by a monic polynomial of degree e + 1, x^(e + 1) + g e x^e + .. + g 0, one coefficient at a time.
-- A remainder is the function from power to coefficient, of which the powers 0, .., e count.
--   Zero y        y is a zero of the polynomial
--   next b r      the remainder after one more coefficient b: x r + b, less r e times the polynomial
--   run f n       the remainder of the word f 0, .., f (n - 1)
--   ahead b r     the remainder of x r + b x^(e + 1)
--   check f n     the remainder of x^(e + 1) times the word f 0, .., f (n - 1): what the encoder appends to it
use Rattle.std.specs.Prelude.{◌≡◌, ℕ, zero, suc}
use Rattle.algebra.specs.Field.{BinaryField}
use Rattle.algebra.specs.Series.{cons}
use Rattle.algebra.specs.Polynomial.{pow, low}

module _ (K : BinaryField) (e : ℕ) (g : ℕ → K.carrier) where
  open K use {carrier as F, add as ◌⊕◌, mul as ◌⊗◌, nil as 𝟘}

  infixl 60 ◌⊕◌
  infixl 70 ◌⊗◌
  -- y^(e + 1) = g e y^e + .. + g 0, in characteristic 2
  abbrev pub Zero : F → Type 0
  Zero y = pow K y (suc e) ≡ low K (suc e) g y

  -- x r + b has the coefficient r e at x^(e + 1); the polynomial times r e takes it away.
  unfoldable pub next : F → (ℕ → F) → ℕ → F
  next b r p = cons K b r p ⊕ r e ⊗ g p

  -- coefficient by coefficient, the highest power first
  unfoldable pub run : (ℕ → F) → ℕ → ℕ → F
  run f zero = λ p. 𝟘
  run f (suc n) = next (f n) (run f n)

  -- as `next`, with b entering at x^(e + 1)
  unfoldable pub ahead : F → (ℕ → F) → ℕ → F
  ahead b r p = cons K 𝟘 r p ⊕ (r e ⊕ b) ⊗ g p

  -- The parity of document 01, "The code".
  unfoldable pub check : (ℕ → F) → ℕ → ℕ → F
  check f zero = λ p. 𝟘
  check f (suc n) = ahead (f n) (check f n)
