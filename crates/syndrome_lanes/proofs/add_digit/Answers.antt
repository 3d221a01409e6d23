use Prim.Native.Nat.{◌<◌}
use native.Mathlib.Omega.{arith}
use borrow.Author.Rules.{rules}
use lib.Count.{count_trailing_zeros, trailing_le}
use lib.Pow.{pow_pos}
use Rattle.syndrome_lanes.proofs.Rows.{scanning-start, scanning-next, scanning-end, lowest, lowest-le, lowest-shift}
use Rattle.syndrome_lanes.proofs.add_digit.Goals as goal

pub loop-left-init : goal.loop-left-init
loop-left-init c = (search rules, scanning-start c.requires.0)

pub overflow_cast-p : goal.overflow_cast-p
overflow_cast-p c = omega (arith, trailing_le 32 c.loop-left.left)

pub add_row-requires : goal.add_row-requires
add_row-requires c = let z : 0 < c.loop-left.left = search rules in
    let m : c.loop-left.left < 4294967296 = c.loop-left.invariant.0 in
    let low = lowest 32 c.loop-left.left z m in
    (low.less, c.loop-left.invariant.1.full, c.requires.1)

pub overflow_shl-one : goal.overflow_shl-one
overflow_shl-one c = let z : 0 < c.loop-left.left = search rules in
    let m : c.loop-left.left < 4294967296 = c.loop-left.invariant.0 in
    let low = lowest 32 c.loop-left.left z m in
    low.less

pub overflow_sub-left : goal.overflow_sub-left
overflow_sub-left c = let z : 0 < c.loop-left.left = search rules in
    let m : c.loop-left.left < 4294967296 = c.loop-left.invariant.0 in
    let low = lowest 32 c.loop-left.left z m in
    rw (lowest-shift m low) (lowest-le low)

pub loop-left-smaller : goal.loop-left-smaller
loop-left-smaller c = let z : 0 < c.loop-left.left = search rules in
    let m : c.loop-left.left < 4294967296 = c.loop-left.invariant.0 in
    let low = lowest 32 c.loop-left.left z m in
    rw (lowest-shift m low) (omega (arith, lowest-le low, pow_pos (count_trailing_zeros 32 c.loop-left.left)))

pub loop-left-preserved : goal.loop-left-preserved
loop-left-preserved c = let z : 0 < c.loop-left.left = search rules in
    let m : c.loop-left.left < 4294967296 = c.loop-left.invariant.0 in
    let low = lowest 32 c.loop-left.left z m in
    rw (lowest-shift m low) (omega arith, scanning-next low c.loop-left.invariant.1 c.add_row.ensures)

pub returns : goal.returns
returns c = scanning-end (search rules) c.loop-left.invariant.1
