-- Inner promises: what the steps of a comparison ask for.
--
-- Under w q   q is the plan of the layout that the words w are accepted as
use Rattle.std.specs.Prelude.{◌≡◌, Ok}
use Rattle.layout_plan.specs.Record.{Words}
use Rattle.layout_plan.specs.declared.Layout.{Layout}
use Rattle.layout_plan.specs.declared.Plan.{Plan}
use Rattle.layout_plan.specs.Plan.{plan_of}
use Rattle.layout.specs.Acceptance.{acceptance}

pub record Under (w : Words) (q : Plan) : Type 0 where
  pub layout : Layout
  pub accepted : acceptance w ≡ Ok layout
  pub same : q ≡ plan_of layout
