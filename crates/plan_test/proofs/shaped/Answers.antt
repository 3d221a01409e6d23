use Prim.Native.Nat.{ℕ, ◌+◌, ◌*◌}
use mathlib.Core.Path.{ap, sym, ◌∙◌}
use mathlib.Core.Bool.{and-false}
use native.Mathlib.Omega.{arith}
use borrow.Author.Tests.{ne_eqb, lt-leb}
use Rattle.plan_test.specs.Together.{shaped}
use Rattle.layout_plan.proofs.Plans.{degree-small, product_le}
use Rattle.plan_test.proofs.Shapes.{shaped-odd, shaped-none, shaped-code}
use Rattle.plan_test.proofs.shaped.Goals as goal

pub returns-then-level-ne0 : goal.returns-then-level-ne0
returns-then-level-ne0 c = shaped-odd _ c.if-level-ne0.true

pub returns-then-level-gt62 : goal.returns-then-level-gt62
unfolding shaped
returns-then-level-gt62 c = simp (lt-leb _ _ c.if-level-gt62.true, and-false)

pub returns-then-shape-ne0 : goal.returns-then-shape-ne0
unfolding shaped
returns-then-shape-ne0 c = simp (ne_eqb _ _ c.if-shape-ne0.true, and-false)

pub overflow_mul-parity : goal.overflow_mul-parity
overflow_mul-parity c = let a = c.args in
    let p = product_le 14 65535 {a = c.degree.result} {b = a.shape.level} (rw c.degree.ensures (degree-small _)) (omega arith) in
    omega arith

pub overflow_add-both : goal.overflow_add-both
overflow_add-both c = let a = c.args in
    let p = product_le 14 65535 {a = c.degree.result} {b = a.shape.level} (rw c.degree.ensures (degree-small _)) (omega arith) in
    omega arith

pub returns-then-covered-both : goal.returns-then-covered-both
unfolding shaped
returns-then-covered-both c = let a = c.args in
    let e = ap (λ (m : ℕ). a.shape.message + m * a.shape.level) c.degree.ensures in
    simp (ne_eqb _ _ (λ z. c.if-covered-both.true (z ∙ sym e)), and-false)

pub returns-then-level-eq0 : goal.returns-then-level-eq0
returns-then-level-eq0 c = let a = c.args in
    let e = ap (λ (m : ℕ). a.shape.message + m * a.shape.level) c.degree.ensures in
    shaped-none _ c.if-level-ne0.false c.if-level-gt62.false c.if-shape-ne0.false (c.if-covered-both.false ∙ e) c.if-level-eq0.true

pub returns : goal.returns
returns c = let a = c.args in
    let e = ap (λ (m : ℕ). a.shape.message + m * a.shape.level) c.degree.ensures in
    rw c.longest-longest.ensures (shaped-code _ c.if-level-ne0.false c.if-level-gt62.false c.if-shape-ne0.false (c.if-covered-both.false ∙ e) c.if-level-eq0.false)
