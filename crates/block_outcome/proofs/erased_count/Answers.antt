use mathlib.Core.Path.{ap}
use native.Mathlib.Omega.{arith}
use Rattle.layout_plan.specs.declared.Shape.{Shape}
use Rattle.block_outcome.proofs.Counts.{erased_at-counted}
use Rattle.block_outcome.proofs.erased_count.Goals as goal

pub count_of_zeros-requires : goal.count_of_zeros-requires
count_of_zeros-requires c = let p = c.requires in
    omega (arith, ap (λ (x : Shape). x.level) c.block_shape-shape.ensures, p.0.plan.valid.strong _ p.1)

pub returns : goal.returns
returns c = erased_at-counted _ _ _ (ap (λ (x : Shape). x.level) c.block_shape-shape.ensures) c.block_zeros-zeros.ensures
    c.count_of_zeros.ensures.0 c.count_of_zeros.ensures.1
