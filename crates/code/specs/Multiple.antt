-- What a remainder is (document 01, "The code"), said without a way to work it out. A polynomial over GF(2) is a number: its binary digit p is the
-- coefficient of x^p.
--
-- Multiple g x         the polynomial x is a multiple of g: the product of g and a quotient
-- Remains f t w r      r has a degree below mt, and differs from the word w by a multiple of the generator of the level t
use Rattle.std.specs.Prelude.{◌≡◌, ℕ, ◌*◌, ◌^◌, ◌<◌}
use Rattle.std.specs.Int.Bits.{bit_xor}
use Rattle.bits.specs.Bits.{number}
use Rattle.field.specs.declared.Field.{Field}
use Rattle.field.specs.Field.{degree}
use Rattle.code.specs.Word.{Word}
use Rattle.code.specs.Generator.{times, generator}

-- The quotient has a degree below `size`.
pub record Multiple (g x : ℕ) : Type 0 where
  pub size : ℕ
  pub quotient : ℕ
  pub low : quotient < 2 ^ size
  pub product : x ≡ times size g quotient

pub record Remains (f : Field) (t : ℕ) (w : Word) (r : ℕ) : Type 0 where
  pub below : r < 2 ^ (degree f * t)
  pub multiple : Multiple (generator f t) (bit_xor (number w) r)
