use mathlib.Core.Path.{◌≡◌}
use native.Mathlib.Omega.{arith}
use Rattle.syndrome_lanes.proofs.Rows.{filling-start, filling-next, filling-end, row-exponent}
use Rattle.syndrome_lanes.proofs.fill_row.Goals as goal

pub loop-i-init : goal.loop-i-init
loop-i-init c = filling-start _ _ c.requires.2

pub offset_bounds-powers-e : goal.offset_bounds-powers-e
offset_bounds-powers-e c = omega (arith, c.loop-i.invariant.next, row-exponent {i = c.loop-i.i} c.requires.0 (omega arith) c.requires.1)

pub bounds-powers-e : goal.bounds-powers-e
bounds-powers-e c = omega (arith, c.loop-i.invariant.next, row-exponent {i = c.loop-i.i} c.requires.0 (omega arith) c.requires.1)

pub overflow_add-e : goal.overflow_add-e
overflow_add-e c = omega (arith, c.loop-i.invariant.next, row-exponent {i = c.loop-i.i} c.requires.0 (omega arith) c.requires.1)

pub loop-i-preserved : goal.loop-i-preserved
loop-i-preserved c = filling-next _ _ _ _ (omega arith) c.requires.1 c.loop-i.invariant

pub returns : goal.returns
returns c = let e : c.loop-i.i ≡ c.args.t = omega arith in filling-end _ _ _ (rw e at c.loop-i.invariant)
