use Rattle.std.proofs.Common.{arith, ◌∙◌}
use Rattle.text.proofs.Numbers.{fitting-checked, fitting-large, appended-other, appended-digit}
use Rattle.text.proofs.digits.append.Goals as goal

pub returns-then-base-d : goal.returns-then-base-d
returns-then-base-d c = appended-other _ _ _ _ c.digit-d.ensures c.if-base-d.true

pub returns-in_err-checked_mul : goal.returns-in_err-checked_mul
returns-in_err-checked_mul c =
    c.from_residual.ensures ∙ fitting-large _ (omega (arith, c.in_err-checked_mul.ensures)) ∙ appended-digit _ _ _ _ c.digit-d.ensures c.if-base-d.false

pub returns : goal.returns
returns c =
    let p = c.in_ok-checked_mul.ensures in
    (rw p.1 at (fitting-checked _ _ c.checked_add.ensures)) ∙ appended-digit _ _ _ _ c.digit-d.ensures c.if-base-d.false
