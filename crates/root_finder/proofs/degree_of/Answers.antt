use Prim.Native.Nat.{◌≤◌}
use native.Mathlib.Omega.{arith}
use Rattle.field.specs.declared.Field.{Field}
use Rattle.field.specs.declared.Field.TheVariants.{Thirteen, Fourteen}
use Rattle.field.specs.Field.{degree}
use Rattle.root_finder.proofs.degree_of.Goals as goal

degree-within : (f : Field) → (9 ≤ degree f) × (degree f ≤ 15)
unfolding degree
degree-within Thirteen = (omega arith, omega arith)
degree-within Fourteen = (omega arith, omega arith)

pub returns : goal.returns
returns c = rw c.degree.ensures (degree-within _)
