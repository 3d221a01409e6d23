-- Case H of document 01: a^13 is 0x1B for m = 13, a^14 is 0x2B for m = 14.
use mathlib.Core.Path.{◌≡◌, refl}
use Rattle.field.specs.declared.Field.TheVariants.{Thirteen, Fourteen}
use Rattle.field.specs.Field.{degree, modulus, mul_x, mul_bits, mul, pow, a^}

pub case-H-thirteen : a^ Thirteen 13 ≡ 0x1b
unfolding degree modulus mul_x mul_bits mul pow
case-H-thirteen = refl

pub case-H-fourteen : a^ Fourteen 14 ≡ 0x2b
unfolding degree modulus mul_x mul_bits mul pow
case-H-fourteen = refl
