use mathlib.Core.Path.{refl}
use native.Mathlib.Omega.{arith}
use Rattle.layout_plan.proofs.Plans.{product_le}
use Rattle.page_plan.proofs.messages.Goals as goal

pub overflow_mul-result : goal.overflow_mul-result
overflow_mul-result c = let a = c.args in
    let p = product_le 65535 4294967295 {a = a.n} {b = a.shape.message} (omega arith) (omega arith) in
    omega arith

pub returns : goal.returns
returns c = let a = c.args in
    let p = product_le 65535 4294967295 {a = a.n} {b = a.shape.message} (omega arith) (omega arith) in
    record { eq = refl; small = omega arith }
