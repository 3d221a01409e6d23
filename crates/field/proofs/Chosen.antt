-- A choice by number.
use mathlib.Core.Path.{◌≡◌, refl}
use mathlib.Core.Logic.{◌≢◌}
use Prim.Native.Nat.{ℕ, zero, suc}
use Rattle.field.specs.Field.{chosen}
use Rattle.std.specs.Prelude.{None}

-- a number other than 0 and 1 names no field
pub chosen-unknown : (number : ℕ) → number ≢ 0 → number ≢ 1 → chosen number ≡ None
unfolding chosen
chosen-unknown zero h h' = absurd (h refl)
chosen-unknown (suc zero) h h' = absurd (h' refl)
chosen-unknown (suc (suc number)) h h' = refl
