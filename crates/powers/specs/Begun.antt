-- Inner promises: tables of powers, filled one entry after the other.
--
-- Begun f k table   the k first entries of the table are 1, a, .., a^(k - 1) in the field f
-- Stride s          for m = 14, a^(14 s) = a^(5 s) + a^(3 s) + a^s + 1, and s is not 0
use Rattle.std.specs.Prelude.{◌≡◌, List, ℕ, ◌*◌, ◌<◌, length, get_or}
use Rattle.std.specs.Int.Bits.{bit_xor}
use Rattle.field.specs.declared.Field.{Field}
use Rattle.field.specs.declared.Field.TheVariants.{Fourteen}
use Rattle.field.specs.Field.{a^}

pub record Begun (f : Field) (k : ℕ) (table : List ℕ) : Type 0 where
  pub size : length table ≡ 16384
  pub at : (j : ℕ) → j < k → get_or table j 0 ≡ a^ f j

pub record Stride (s : ℕ) : Type 0 where
  pub positive : 0 < s
  pub sum : a^ Fourteen (s * 14) ≡ bit_xor (bit_xor (bit_xor (a^ Fourteen (s * 5)) (a^ Fourteen (s * 3))) (a^ Fourteen s)) 1
