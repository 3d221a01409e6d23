use mathlib.Core.Path.{sym, ◌∙◌}
use borrow.Author.Tests.{eq-eqb, ne_eqb}
use Rattle.page_plan.proofs.same_generator.Goals as goal

pub returns-then-m-n : goal.returns-then-m-n
returns-then-m-n c = simp (ne_eqb _ _ (λ e. c.if-m-n.true (c.degree-m.ensures ∙ e ∙ sym c.degree-n.ensures)))

pub returns : goal.returns
returns c = simp (eq-eqb _ _ (sym c.degree-m.ensures ∙ c.if-m-n.false ∙ c.degree-n.ensures))
