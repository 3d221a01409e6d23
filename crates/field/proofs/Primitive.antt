-- In both fields a is primitive: the walks over its powers are computed.
use mathlib.Core.Path.{refl}
use Prim.Native.Nat.{ℕ, ◌^◌, ◌<◌}
use native.Mathlib.Omega.{arith}
use lib.Dec.{T, lit<}
use Rattle.field.specs.declared.Field.{Field}
use Rattle.field.specs.declared.Field.TheVariants.{Thirteen, Fourteen}
use Rattle.field.specs.Field.{degree, modulus, longest, Usable}
use Rattle.field.proofs.Fast.{fast_x, reduce}
use Rattle.field.proofs.Order.{walk, Primitive, primitive-walk}

walk-thirteen : T (walk (fast_x 0x1b 0x2000) 8190 2)
unfolding walk fast_x reduce
walk-thirteen = tt

walk-fourteen : T (walk (fast_x 0x2b 0x4000) 16382 2)
unfolding walk fast_x reduce
walk-fourteen = tt

pub primitive : (f : Field) → Primitive (degree f) (modulus f) (longest f)
unfolding degree modulus longest
primitive Thirteen = primitive-walk 13 0x1b 8190 (lit< tt) (lit< tt) (lit< tt) refl walk-thirteen
primitive Fourteen = primitive-walk 14 0x2b 16382 (lit< tt) (lit< tt) (lit< tt) refl walk-fourteen

pub usable : (f : Field) → Usable (degree f) (modulus f)
usable f = (primitive f).usable

-- ---- sizes, as the code's arrays have them

pub longest-below : (f : Field) → longest f < 2 ^ 14
unfolding longest
longest-below Thirteen = lit< tt
longest-below Fourteen = lit< tt

pub element-below : (f : Field) {x : ℕ} → x < 2 ^ degree f → x < 2 ^ 14
element-below f {x} h = omega (arith, (primitive f).size, longest-below f)
