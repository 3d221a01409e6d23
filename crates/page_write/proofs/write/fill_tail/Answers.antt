use native.Mathlib.Omega.{arith}
use Rattle.layout_plan.specs.Plan.{room}
use Rattle.page_write.proofs.write.fill_tail.Goals as goal

pub overflow_sub-room : goal.overflow_sub-room
overflow_sub-room c = let p = c.requires in
    let n = p.1 in
    let i = p.0.valid.inside in
    omega arith

pub overflow_mul-room : goal.overflow_mul-room
overflow_mul-room c = let p = c.requires in
    let n = p.1 in
    let x = p.0.size in
    record { fits = omega arith }

pub overflow_sub-room-2 : goal.overflow_sub-room-2
unfolding room
overflow_sub-room-2 c = let p = c.requires in
    let n = p.1 in
    let r = p.0.valid.fits in
    omega arith

pub fill_ones-requires : goal.fill_ones-requires
unfolding room
fill_ones-requires c = let p = c.requires in
    let n = p.1 in
    let r = p.0.valid.fits in
    let i = p.0.valid.inside in
    let x = p.0.size in
    record { inside = omega arith; ends = omega arith; fits = omega arith }

pub returns : goal.returns
unfolding room
returns c = rw c.requires.1 at c.fill_ones.ensures
