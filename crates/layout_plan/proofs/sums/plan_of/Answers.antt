use mathlib.Core.Path.{refl}
use Rattle.layout_plan.specs.Plan.{plan_of}
use Rattle.layout_plan.proofs.sums.plan_of.Goals as goal

pub returns : goal.returns
unfolding plan_of
returns c = refl
