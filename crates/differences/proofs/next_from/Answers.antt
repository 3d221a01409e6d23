use mathlib.Core.Path.{refl, sym, ◌∙◌}
use native.Mathlib.Omega.{arith}
use Rattle.differences.proofs.Passing.{step-within, next_here, next_past, next-end}
use Rattle.differences.proofs.next_from.Goals as goal

-- src/lib.rt:91:5
pub loop-p-init : goal.loop-p-init
loop-p-init c = refl

-- src/lib.rt:94:13
pub returns-then-step-eq0 : goal.returns-then-step-eq0
returns-then-step-eq0 c = sym (next_here _ _ _ _ _ (omega arith) (c.passed-step.ensures.here c.if-step-eq0.true)) ∙ c.loop-p.invariant

-- src/lib.rt:96:9
pub overflow_add-p : goal.overflow_add-p
overflow_add-p c = record { fits = omega arith }

-- src/lib.rt:91:5
pub loop-p-preserved : goal.loop-p-preserved
loop-p-preserved c = sym (next_past _ _ _ _ _ _ (step-within _ _ _ (omega arith) c.passed-step.ensures.short c.passed-step.ensures.whole) c.passed-step.ensures.free) ∙ c.loop-p.invariant

-- src/lib.rt:80:1
pub returns : goal.returns
returns c = sym (next-end _ _ _ _ _ (omega arith)) ∙ c.loop-p.invariant
