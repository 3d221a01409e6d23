use mathlib.Core.Path.{refl}
use native.Mathlib.Omega.{arith}
use Rattle.layout_plan.specs.Plan.{room}
use Rattle.layout_plan.proofs.sums.page_room.Goals as goal

pub returns-then-size-mark : goal.returns-then-size-mark
unfolding room
returns-then-size-mark c = omega (arith, c.if-size-mark.true)

pub returns : goal.returns
unfolding room
returns c = refl
