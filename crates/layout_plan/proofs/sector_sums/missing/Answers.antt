use mathlib.Core.Path.{refl}
use native.Mathlib.Omega.{arith}
use Rattle.layout_plan.specs.SectorPlan.{missing}
use Rattle.layout_plan.proofs.sector_sums.missing.Goals as goal

pub returns : goal.returns
unfolding missing
returns c = record { eq = refl; small = omega arith }
