use Prim.Native.Nat.{◌<◌}
use Rattle.syndrome_lanes.proofs.Rows.{Scanning}
use Rattle.syndrome_lanes.proofs.add_digit.Given as goal

abbrev pub invariant-loop-left : goal.invariant-loop-left
invariant-loop-left l = (l.left < 4294967296) × (Scanning l.width l.rows l.word l.initial.lanes l.left l.lanes)

abbrev pub decreases-loop-left : goal.decreases-loop-left
decreases-loop-left l = l.left
