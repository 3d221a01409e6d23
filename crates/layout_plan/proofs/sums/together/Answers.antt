use native.Mathlib.Omega.{arith}
use Rattle.layout_plan.proofs.Plans.{product_le}
use Rattle.layout_plan.proofs.sums.together.Goals as goal

pub overflow_mul-result : goal.overflow_mul-result
overflow_mul-result c = let a = c.args in
    let p = product_le 65535 4294967551 {a = a.n} {b = c.pitch.result} (omega arith) (omega (arith, c.pitch.ensures.small)) in
    omega arith

pub returns : goal.returns
returns c = let a = c.args in
    let p = product_le 65535 4294967551 {a = a.n} {b = c.pitch.result} (omega arith) (omega (arith, c.pitch.ensures.small)) in
    record { eq = rw c.pitch.ensures.eq; small = omega arith }
