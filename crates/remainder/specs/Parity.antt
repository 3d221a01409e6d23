-- Inner promises: the parity of a message, worked out with the zeros after it from the start.
-- A polynomial over GF(2) is a number: its binary digit p is the coefficient of x^p.
--
-- parity_step d g r b       the parity of one more coefficient b of a message, from the parity r of those before, by g of degree d
-- parity_from d g r w       the same for the coefficients w
-- rest d g v               the remainder of v x^d
use Rattle.std.specs.Prelude.{Bool, false, [], ◌∷◌, ℕ, ◌-◌, ◌*◌, ◌^◌, replicate}
use Rattle.std.specs.Int.Bits.{bit_xor}
use Rattle.bits.specs.Bits.{digit}
use Rattle.code.specs.Word.{Word}
use Rattle.code.specs.Generator.{remainder_step}
use Rattle.remainder.specs.Remainder.{remainder_from}

-- A message is divided with d zeros after it: its coefficients enter at x^d, beside the highest one of the remainder so far.
unfoldable pub parity_step : ℕ → ℕ → ℕ → Bool → ℕ
parity_step d g r b = remainder_step d g (bit_xor r (digit b * 2 ^ (d - 1))) false

unfoldable pub parity_from : ℕ → ℕ → ℕ → Word → ℕ
parity_from d g r [] = r
parity_from d g r (b ∷ w) = parity_from d g (parity_step d g r b) w

unfoldable pub rest : ℕ → ℕ → ℕ → ℕ
rest d g v = remainder_from d g v (replicate d false)
