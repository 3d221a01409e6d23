-- The stored rows are the generators of their levels: each list is tested whole, which the checker computes.
use mathlib.Core.Path.{◌≡◌}
use mathlib.Core.List.{[]}
use Prim.Native.Nat.{ℕ, ◌*◌, ◌≤◌}
use native.Mathlib.Omega.{arith}
use lib.ListN.{get_or}
use lib.Dec.{T}
use Rattle.field.specs.declared.Field.{Field}
use Rattle.field.specs.declared.Field.TheVariants.{Thirteen, Fourteen}
use Rattle.field.specs.Field.{degree}
use Rattle.code.specs.Generator.{times, minimals, minimals13, minimals14, generator}
use Rattle.code.specs.Register.{register, low}
use Rattle.generators.specs.Rows.{thirteen, fourteen, rows}
use Rattle.generators.proofs.Chain.{chained, tested, tested-rows}

thirteen-tested : T (tested Thirteen thirteen)
unfolding tested chained minimals minimals13 degree times register low
thirteen-tested = tt

fourteen-tested : T (tested Fourteen fourteen)
unfolding tested chained minimals minimals14 degree times register low
fourteen-tested = tt

pub row-generates : (f : Field) (k : ℕ) → k ≤ 31 → register (get_or (rows f) k []) ≡ generator f (2 * k)
row-generates Thirteen k l = tested-rows Thirteen thirteen thirteen-tested k (omega arith)
row-generates Fourteen k l = tested-rows Fourteen fourteen fourteen-tested k (omega arith)
