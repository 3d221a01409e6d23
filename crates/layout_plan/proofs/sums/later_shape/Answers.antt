use mathlib.Core.Path.{sym, ◌∙◌}
use native.Mathlib.Omega.{arith}
use Rattle.field.specs.Field.{degree}
use Rattle.layout_plan.specs.Plan.{shape_with}
use Rattle.layout_plan.proofs.Plans.{later-none, later-some}
use Rattle.layout_plan.proofs.sums.later_shape.Goals as goal

pub returns-then-fields-eq0 : goal.returns-then-fields-eq0
unfolding shape_with degree
returns-then-fields-eq0 c = record { eq = sym (later-none _ c.if-fields-eq0.true); small = omega arith }

pub returns : goal.returns
returns c = record { eq = c.shape_of.ensures.eq ∙ sym (later-some _ (omega arith)); small = c.shape_of.ensures.small }
