use native.Mathlib.Omega.{arith}
use Rattle.layout_plan.proofs.Plans.{product_le, degree-small}
use Rattle.layout_plan.proofs.sector_sums.parity_bits.Goals as goal

pub overflow_mul-result : goal.overflow_mul-result
overflow_mul-result c = let d = c.degree in
    let p = product_le 14 62 {a = d.result} {b = c.args.level} (rw d.ensures (degree-small _)) c.requires in
    omega arith

pub returns : goal.returns
returns c = let d = c.degree in
    let p = product_le 14 62 {a = d.result} {b = c.args.level} (rw d.ensures (degree-small _)) c.requires in
    record { eq = rw d.ensures; small = omega arith }
