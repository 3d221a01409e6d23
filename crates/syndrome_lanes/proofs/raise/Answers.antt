use mathlib.Core.Path.{◌≡◌}
use native.Mathlib.Omega.{arith}
use Rattle.syndrome_lanes.proofs.Rows.{raising-start, raising-next, raising-end, raise-exponent}
use Rattle.syndrome_lanes.proofs.raise.Goals as goal

pub loop-i-init : goal.loop-i-init
loop-i-init c = raising-start _ c.requires.t_bound.1

pub scaled-w-requires : goal.scaled-w-requires
scaled-w-requires c = record { tables = c.requires.tables; x_bound = (rw (c.loop-i.invariant.rest c.loop-i.i (omega arith)) (c.requires.t_bound.2 c.loop-i.i (omega arith)), omega (arith, c.loop-i.invariant.next, raise-exponent c.args.f {i = c.loop-i.i} c.requires.t_bound.0 (omega arith))) }

pub overflow_add-e : goal.overflow_add-e
overflow_add-e c = omega (arith, c.loop-i.invariant.next, c.requires.t_bound.0)

pub loop-i-preserved : goal.loop-i-preserved
loop-i-preserved c = raising-next _ _ _ _ (omega arith) c.loop-i.invariant c.scaled-w.ensures

pub returns : goal.returns
returns c = let e : c.loop-i.i ≡ c.args.t = omega arith in raising-end _ _ (rw e at c.loop-i.invariant)
