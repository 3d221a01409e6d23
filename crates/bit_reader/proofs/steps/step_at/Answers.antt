use mathlib.Core.Path.{ap, sym, ◌∙◌}
use native.Mathlib.Omega.{arith}
use Rattle.bits.specs.Bits.{bit_at}
use Rattle.std.specs.Prelude.{ℕ, Some}
use Rattle.bit_reader.specs.Reading.{greatest}
use Rattle.bit_reader.proofs.Walking.{end_of-greatest, end_of-after, end_of-before, step_at-inside, step_at-end}
use Rattle.bit_reader.proofs.steps.step_at.Goals as goal

pub returns-then-p-eq-GREATEST : goal.returns-then-p-eq-GREATEST
unfolding greatest
returns-then-p-eq-GREATEST c = sym (step_at-end _ _ (rw c.if-p-eq-GREATEST.true (end_of-greatest _)))

pub returns-then-p-page : goal.returns-then-p-page
unfolding greatest
returns-then-p-page c = let a = c.args in
    let p = a.p in
    c.bit_before.ensures ∙ ap (λ (q : ℕ). Some (bit_at a.page.now p, q)) c.position_after-after.ensures
    ∙ sym (step_at-inside _ p (end_of-after _ p c.if-p-page.true (omega arith)))

pub returns-else-p-page : goal.returns-else-p-page
returns-else-p-page c = sym (step_at-end _ _ (end_of-before _ c.args.p c.if-p-page.false))
