-- The answer to a version that a page call works with (document 02, E8 and E11).
--
-- tested a             the answer a to a layout; 7 where it accepts a layout whose kept numbers do not hold together
-- plan_answer r         what the plan r of a version says of it, as the answer to a layout
use Rattle.std.specs.Prelude.{cond, Result, Ok, Err}
use Rattle.layout.specs.declared.Refusal.{Refusal}
use Rattle.layout.specs.declared.Refusal.TheVariants.{Range}
use Rattle.layout_plan.specs.declared.Layout.{Layout}
use Rattle.layout_plan.specs.declared.Plan.{Plan}
use Rattle.layout_plan.specs.Plan.{plan_of}
use Rattle.plan_test.specs.Together.{holds_together}

-- No call of the crate `store` makes a store that keeps such a layout (proofs/Keeping.antt); it is answered as an unknown version is.
unfoldable pub tested : Result Layout Refusal → Result Layout Refusal
tested (Ok l) = cond (holds_together (plan_of l)) (Ok l) (Err Range)
tested (Err r) = Err r

unfoldable pub plan_answer : Result Plan Refusal → Result Layout Refusal
plan_answer (Ok q) = Ok (record { plan = q })
plan_answer (Err r) = Err r
