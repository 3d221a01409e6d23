use mathlib.Core.Path.{◌≡◌}
use native.Mathlib.Omega.{arith}
use Rattle.syndrome_lanes.proofs.Rows.{filled-start, filled_next}
use Rattle.syndrome_lanes.proofs.fill_lanes.Goals as goal

pub loop-p-init : goal.loop-p-init
loop-p-init c = filled-start _ c.requires.1

pub fill_row-requires : goal.fill_row-requires
fill_row-requires c = (c.requires.0, omega arith, c.loop-p.invariant.full)

pub loop-p-preserved : goal.loop-p-preserved
loop-p-preserved c = filled_next _ _ c.requires.0 (omega arith) c.loop-p.invariant c.fill_row.ensures

pub returns : goal.returns
returns c = let e : c.loop-p.p ≡ 32 = omega arith in rw e at c.loop-p.invariant
