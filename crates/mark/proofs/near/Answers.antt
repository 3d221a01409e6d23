use mathlib.Core.Path.{sym, ◌∙◌}
use native.Mathlib.Omega.{arith}
use Rattle.mark.proofs.Runs.{near_none, near_before, near-across}
use Rattle.mark.proofs.near.Goals as goal

pub returns-then-mark-eq0 : goal.returns-then-mark-eq0
returns-then-mark-eq0 c = sym (near_none _ _ _ c.if-mark-eq0.true)

pub returns-then-at-n : goal.returns-then-at-n
returns-then-at-n c = sym (near_before _ _ _ c.if-mark-eq0.false c.if-at-n.true)

pub returns-then-start-at : goal.returns-then-start-at
returns-then-start-at c = omega arith ∙ sym (near-across _ _ _ c.if-mark-eq0.false c.if-at-n.false)

pub returns : goal.returns
returns c = sym (near-across _ _ _ c.if-mark-eq0.false c.if-at-n.false)
