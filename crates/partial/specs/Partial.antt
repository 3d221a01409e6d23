-- Inner promises: partial remainders.
-- A polynomial over GF(2) is a number: its binary digit p is the coefficient of x^p.
--
-- reduced d g s            the remainder that the partial remainder s stands for, by g of degree d
-- Stands d g v x           x is a partial remainder of v x^d
-- Clears d g c x           x is a multiple of g of which the digits from d on are c
use Rattle.std.specs.Prelude.{◌≡◌, ℕ, ◌+◌, ◌*◌, ◌/◌, ◌%◌, ◌^◌, ◌<◌, ◌≤◌}
use Rattle.std.specs.Int.Bits.{bit_xor}
use Rattle.remainder.specs.Parity.{rest}

-- A partial remainder is a number longer than the divisor allows that leaves the same remainder: its digits from d on are not divided yet.
unfoldable pub reduced : ℕ → ℕ → ℕ → ℕ
reduced d g s = bit_xor (rest d g (s / 2 ^ d)) (s % 2 ^ d)

-- x stands for v x^d, and x moved up by k digits for v moved up by as many, as long as that leaves at most 64 digits from d on; x has at most 8 of them.
pub record Stands (d g v x : ℕ) : Type 0 where
  pub below : x < 2 ^ (d + 8)
  pub same : (k : ℕ) → k ≤ 56 → reduced d g (x * 2 ^ k) ≡ rest d g (v * 2 ^ k)

-- The digits of x from d on are c, and x is a multiple of g: moved up by at most 60 digits, it leaves nothing.
pub record Clears (d g c x : ℕ) : Type 0 where
  pub top : x / 2 ^ d ≡ c
  pub same : (k : ℕ) → k ≤ 60 → reduced d g (x * 2 ^ k) ≡ 0
