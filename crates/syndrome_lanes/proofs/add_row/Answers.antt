use native.Mathlib.Omega.{arith}
use Rattle.syndrome_lanes.proofs.Rows.{adding-start, adding-next, adding-end}
use Rattle.syndrome_lanes.proofs.add_row.Goals as goal

pub loop-i-init : goal.loop-i-init
loop-i-init c = adding-start c.requires.1

pub loop-i-preserved : goal.loop-i-preserved
loop-i-preserved c = adding-next _ (omega arith) c.loop-i.invariant

pub returns : goal.returns
returns c = adding-end (omega arith) c.loop-i.invariant
