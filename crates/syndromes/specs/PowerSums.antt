-- Inner promises: power sums in arrays of 128 numbers (document 01, "The code"): place j - 1 has the sum with a^j.
--
-- Summed f t s ps v     v is s with the power sums of the exponents ps added, for each odd j below 2t
-- Agrees f t s ps       the sums in s are the power sums of the exponents ps, for each odd j below 2t
-- Squared f t s v       v is s for odd j, and for each even j the square of its own sum with the half of j, up to 2t
-- Syndromes f t r s     s has the values of the remainder r at a, a^2, .., a^(2t)
-- Spread t lanes v      v has the lanes at every second place, and nothing that is larger
use Rattle.std.specs.Prelude.{◌≡◌, List, ℕ, suc, ◌+◌, ◌*◌, ◌<◌, length, get_or}
use Rattle.std.specs.Int.Bits.{bit_xor}
use Rattle.bits.specs.Bits.{digits}
use Rattle.field.specs.declared.Field.{Field}
use Rattle.field.specs.Field.{degree, product, a^}
use Rattle.code.specs.Code.{value}
use Rattle.code.specs.Locations.{power_sum}
use Rattle.series.specs.Series.{Elements}

pub record Spread (t : ℕ) (lanes v : List ℕ) : Type 0 where
  pub full : length v ≡ 128
  pub at : (i : ℕ) → i < t → get_or v (i + i) 0 ≡ get_or lanes i 0
  pub small : (b : ℕ) → 0 < b → ((i : ℕ) → i < t → get_or lanes i 0 < b) → (k : ℕ) → get_or v k 0 < b

module _ (f : Field) (t : ℕ) where
  pub record Summed (s ps v : List ℕ) : Type 0 where
    pub elements : Elements f v
    pub sums : (i : ℕ) → i < t → get_or v (i + i) 0 ≡ bit_xor (get_or s (i + i) 0) (power_sum f ps (suc (i + i)))

  pub record Agrees (s ps : List ℕ) : Type 0 where
    pub sums : (i : ℕ) → i < t → get_or s (i + i) 0 ≡ power_sum f ps (suc (i + i))

  pub record Squared (s v : List ℕ) : Type 0 where
    pub elements : Elements f v
    pub odd : (i : ℕ) → i < t → get_or v (i + i) 0 ≡ get_or s (i + i) 0
    pub even : (i : ℕ) → i < t → get_or v (suc (i + i)) 0 ≡ product f (get_or v i 0) (get_or v i 0)

  pub record Syndromes (r : ℕ) (s : List ℕ) : Type 0 where
    pub elements : Elements f s
    pub values : (j : ℕ) → j < 2 * t → get_or s j 0 ≡ value f (digits r (degree f * t)) (a^ f (suc j))
