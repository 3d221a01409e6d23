use mathlib.Core.Path.{sym, ◌∙◌}
use Rattle.text.proofs.Numbers.{digits-empty, digits-next, digits-none}
use Rattle.text.proofs.digits.digits.Goals as goal

pub loop-c-init : goal.loop-c-init
loop-c-init c = digits-empty _ _

pub returns-in_err-v : goal.returns-in_err-v
returns-in_err-v c = c.from_residual.ensures ∙ digits-none _ _ _ _ _ c.loop-c.invariant (sym c.in_err-v.was ∙ c.append.ensures) c.loop-c-test.true

pub loop-c-preserved : goal.loop-c-preserved
loop-c-preserved c = digits-next _ _ _ _ _ c.loop-c.invariant (sym c.in_ok-v.was ∙ c.append.ensures)
