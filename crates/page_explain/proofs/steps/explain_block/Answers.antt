use mathlib.Core.Path.{sym, ◌∙◌}
use Rattle.page_plan.proofs.Plans.{accepted-planned}
use Rattle.page_explain.specs.Explain.{explain_for, explain_of}
use Rattle.page_explain.proofs.Explained.{layout-refused}
use Rattle.page_explain.proofs.steps.explain_block.Goals as goal

pub explain_in-requires : goal.explain_in-requires
explain_in-requires c = rw c.plan_of.ensures (accepted-planned _ _ (λ i. (c.shared_slice_known-1.given i).fits) (sym c.check_layout.ensures ∙ c.in-Ok.is))

pub returns-in-Ok : goal.returns-in-Ok
unfolding explain_of explain_for
returns-in-Ok c = c.explain_in.ensures ∙ simp (c.plan_of.ensures, sym c.check_layout.ensures, c.in-Ok.is)

pub returns-in-Err : goal.returns-in-Err
unfolding explain_of
returns-in-Err c = layout-refused _ _ _ _ _ c.why_refused.ensures (sym c.check_layout.ensures ∙ c.in-Err.is)
