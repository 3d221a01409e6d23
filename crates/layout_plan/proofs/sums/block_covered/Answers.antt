use mathlib.Core.Path.{ap}
use native.Mathlib.Omega.{arith}
use Rattle.layout_plan.specs.declared.Shape.{Shape}
use Rattle.layout_plan.proofs.sums.block_covered.Goals as goal

pub returns : goal.returns
returns c = record { eq = ap (λ (s : Shape). s.covered) c.block_shape-shape.ensures; small = omega arith }
