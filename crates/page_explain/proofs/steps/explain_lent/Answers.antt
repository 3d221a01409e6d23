use mathlib.Core.Path.{sym, ◌∙◌}
use borrow.Author.Tests.{eqb-true}
use Rattle.page_explain.proofs.Explained.{clean-explained}
use Rattle.page_explain.proofs.steps.explain_lent.Goals as goal

pub returns-then-clean : goal.returns-then-clean
returns-then-clean c = let p = c.requires in
    clean-explained _ _ p.0.plan.valid _ p.1 _ c.block_shape-shape.ensures
    (sym c.own_remainder-remainder.ensures ∙ eqb-true _ 0 (sym c.is_zero-clean.ensures ∙ c.if-clean.true))
