use Prim.Native.Nat.{◌+◌, ◌-◌}
use mathlib.Core.Path.{refl}
use native.Mathlib.Omega.{arith}
use Rattle.layout_plan.specs.SectorPlan.{sectors_plan}
use Rattle.layout_plan.proofs.Plans.{product_le}
use Rattle.layout_plan.proofs.sector_sums.sectors_plan.Goals as goal

pub overflow_mul-data : goal.overflow_mul-data
overflow_mul-data c = let a = c.args in
    let p = product_le 15 65535 {a = a.sectors.count - 1} {b = a.sectors.size} (omega arith) (omega arith) in
    omega arith

pub overflow_add-data : goal.overflow_add-data
overflow_add-data c = let a = c.args in
    let p = product_le 15 65535 {a = a.sectors.count - 1} {b = a.sectors.size} (omega arith) (omega arith) in
    omega arith

pub overflow_mul-result : goal.overflow_mul-result
overflow_mul-result c = let a = c.args in
    let p = product_le 15 1048831 {a = a.sectors.count - 1} {b = a.first.covered + a.first.pads} (omega arith) (omega arith) in
    omega arith

pub overflow_add-result : goal.overflow_add-result
overflow_add-result c = let a = c.args in
    let p = product_le 15 1048831 {a = a.sectors.count - 1} {b = a.first.covered + a.first.pads} (omega arith) (omega arith) in
    omega arith

pub returns : goal.returns
unfolding sectors_plan
returns c = refl
