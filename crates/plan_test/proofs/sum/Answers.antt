use native.Mathlib.Omega.{arith}
use Rattle.layout_plan.proofs.Plans.{product_le}
use Rattle.plan_test.proofs.sum.Goals as goal

pub overflow_mul-result : goal.overflow_mul-result
overflow_mul-result c = let a = c.args in
    let p = product_le 65535 4294967295 {a = a.n} {b = a.later} (omega arith) (omega arith) in
    omega arith

pub overflow_add-result : goal.overflow_add-result
overflow_add-result c = let a = c.args in
    let p = product_le 65535 4294967295 {a = a.n} {b = a.later} (omega arith) (omega arith) in
    omega arith
