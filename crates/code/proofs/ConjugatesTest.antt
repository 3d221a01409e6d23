-- Computed: the m t exponents of the conjugates differ, for t = 62 and so for every lower level.
use mathlib.Core.Path.{◌≡◌}
use Prim.Native.Nat.{ℕ, ◌*◌, ◌<◌}
use lib.Dec.{T}
use Rattle.bits.specs.Bits.{bit, run}
use Rattle.field.specs.declared.Field.{Field}
use Rattle.field.specs.declared.Field.TheVariants.{Thirteen, Fourteen}
use Rattle.field.specs.Field.{degree, longest}
use Rattle.code.proofs.Conjugates.{exponent, fresh, differing, differing-differ}

test13 : T (differing (exponent Thirteen) 806)
unfolding differing fresh run bit exponent degree longest
test13 = tt

test14 : T (differing (exponent Fourteen) 868)
unfolding differing fresh run bit exponent degree longest
test14 = tt

pub exponents-differ : (f : Field) (i j : ℕ) → i < j → j < degree f * 62 → exponent f i ≡ exponent f j → ⊥
unfolding degree
exponents-differ Thirteen i j h k = differing-differ (exponent Thirteen) 806 test13 i j h k
exponents-differ Fourteen i j h k = differing-differ (exponent Fourteen) 868 test14 i j h k
