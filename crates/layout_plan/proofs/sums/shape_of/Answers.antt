use Prim.Native.Nat.{◌*◌}
use mathlib.Core.Path.{refl}
use native.Mathlib.Omega.{arith}
use Rattle.layout_plan.specs.Plan.{shape_with, shape_of}
use Rattle.layout_plan.proofs.Plans.{product_le, degree-small, shape-small}
use Rattle.layout_plan.proofs.sums.shape_of.Goals as goal

pub overflow_mul-parity : goal.overflow_mul-parity
overflow_mul-parity c = let a = c.args in
    let d = c.degree in
    let parity = product_le 14 510 {a = d.result} {b = 2 * a.fields.ecc} (rw d.ensures (degree-small _)) (omega arith) in
    omega arith

pub overflow_add-result : goal.overflow_add-result
overflow_add-result c = let a = c.args in
    let d = c.degree in
    let parity = product_le 14 510 {a = d.result} {b = 2 * a.fields.ecc} (rw d.ensures (degree-small _)) (omega arith) in
    omega arith

pub returns : goal.returns
unfolding shape_of shape_with
returns c = let a = c.args in
    rw c.degree.ensures (record { eq = refl; small = shape-small a.metadata a.fields (omega arith) (omega arith) (omega arith) })
