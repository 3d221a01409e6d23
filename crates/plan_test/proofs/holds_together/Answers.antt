use mathlib.Core.Path.{◌≡◌, sym, ◌∙◌}
use mathlib.Core.Bool.{and-false, false≢true}
use Rattle.plan_test.specs.Together.{holds_together}
use Rattle.plan_test.proofs.Together.{together-planned}
use Rattle.plan_test.proofs.holds_together.Goals as goal

pub returns-then-not-counted : goal.returns-then-not-counted
unfolding holds_together
returns-then-not-counted c = record { eq = simp (sym c.counted.ensures.eq ∙ c.if-not-counted.true); planned = λ h. absurd (false≢true h) }

pub returns-then-not-shaped : goal.returns-then-not-shaped
unfolding holds_together
returns-then-not-shaped c = record { eq = simp (sym c.shaped.ensures ∙ c.if-not-shaped.true, and-false); planned = λ h. absurd (false≢true h) }

pub returns-then-not-shaped-2 : goal.returns-then-not-shaped-2
unfolding holds_together
returns-then-not-shaped-2 c = record { eq = simp (sym c.shaped-2.ensures ∙ c.if-not-shaped-2.true, and-false); planned = λ h. absurd (false≢true h) }

pub returns-then-not-filled : goal.returns-then-not-filled
unfolding holds_together
returns-then-not-filled c = record { eq = simp (sym c.filled.ensures ∙ c.if-not-filled.true, and-false); planned = λ h. absurd (false≢true h) }

pub returns-then-not-placed : goal.returns-then-not-placed
unfolding holds_together
returns-then-not-placed c = record { eq = simp (sym c.placed.ensures ∙ c.if-not-placed.true, and-false); planned = λ h. absurd (false≢true h) }

pub returns : goal.returns
unfolding holds_together
returns c = let args = c.args in
    let small = c.counted.ensures.small in
    let counted = sym c.counted.ensures.eq ∙ c.if-not-counted.false in
    let first = sym c.shaped.ensures ∙ c.if-not-shaped.false in
    let later = sym c.shaped-2.ensures ∙ c.if-not-shaped-2.false in
    let filled = sym c.filled.ensures ∙ c.if-not-filled.false in
    let placed = sym c.placed.ensures ∙ c.if-not-placed.false in
    let e : c.summed.result ≡ holds_together args.plan = simp (counted, first, later, filled, placed, c.summed.ensures) in
    record { eq = e; planned = λ h. together-planned args.plan small.0 small.1 (sym e ∙ h) }
