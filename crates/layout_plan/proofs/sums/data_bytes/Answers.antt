use mathlib.Core.Path.{refl}
use native.Mathlib.Omega.{arith}
use Rattle.layout_plan.specs.Plan.{data_bytes}
use Rattle.layout_plan.proofs.Plans.{product_le}
use Rattle.layout_plan.proofs.sums.data_bytes.Goals as goal

pub overflow_mul-result : goal.overflow_mul-result
overflow_mul-result c = let l = c.args.fields in
    omega (arith, product_le 255 65535 {a = l.nblocks} {b = l.later.units} (omega arith) (omega arith))

pub overflow_add-result : goal.overflow_add-result
overflow_add-result c = let l = c.args.fields in
    omega (arith, product_le 255 65535 {a = l.nblocks} {b = l.later.units} (omega arith) (omega arith))

pub overflow_mul-result-2 : goal.overflow_mul-result-2
overflow_mul-result-2 c = let l = c.args.fields in
    omega (arith, product_le 255 65535 {a = l.nblocks} {b = l.later.units} (omega arith) (omega arith))

pub returns : goal.returns
unfolding data_bytes
returns c = refl
