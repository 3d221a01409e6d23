use native.Mathlib.Omega.{arith}
use Rattle.layout_plan.specs.Plan.{plan_for, layout_for}
use Rattle.layout_plan.proofs.Plans.{product_le}
use Rattle.layout_plan.proofs.sums.layout_for.Goals as goal

pub overflow_mul-used : goal.overflow_mul-used
overflow_mul-used c = let n = c.args.fields.nblocks in
    let more = product_le 255 16777215 {a = n} {b = c.later_shape-later.result.covered} (omega arith) (omega (arith, c.later_shape-later.ensures.small)) in
    omega (arith, c.shape_of-first.ensures.small)

pub overflow_add-used : goal.overflow_add-used
overflow_add-used c = let n = c.args.fields.nblocks in
    let more = product_le 255 16777215 {a = n} {b = c.later_shape-later.result.covered} (omega arith) (omega (arith, c.later_shape-later.ensures.small)) in
    omega (arith, c.shape_of-first.ensures.small)

pub returns : goal.returns
unfolding layout_for plan_for
returns c = rw (c.data_bytes-data.ensures, c.shape_of-first.ensures.eq, c.later_shape-later.ensures.eq)
