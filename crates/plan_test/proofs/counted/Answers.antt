use mathlib.Core.Bool.{and-false}
use native.Mathlib.Omega.{arith}
use borrow.Author.Tests.{eq-eqb, ne_eqb, le-leb, lt-leb}
use Rattle.plan_test.specs.Together.{counted}
use Rattle.plan_test.proofs.counted.Goals as goal

pub returns-then-plan-ne1 : goal.returns-then-plan-ne1
unfolding counted
returns-then-plan-ne1 c = record { eq = simp (ne_eqb _ _ c.if-plan-ne1.true); small = (omega arith, omega arith) }

pub returns-then-plan-gt256 : goal.returns-then-plan-gt256
unfolding counted
returns-then-plan-gt256 c = record { eq = simp (lt-leb _ _ c.if-plan-gt256.true, and-false); small = (omega arith, omega arith) }

pub returns : goal.returns
unfolding counted
returns c = record { eq = simp (eq-eqb _ _ c.if-plan-ne1.false, le-leb _ _ c.if-plan-gt256.false); small = (omega arith, omega arith) }
