use Rattle.syndrome_lanes.proofs.Rows.{Adding}
use Rattle.syndrome_lanes.proofs.add_row.Given as goal

abbrev pub invariant-loop-i : goal.invariant-loop-i
invariant-loop-i l = Adding l.rows l.p l.initial.lanes l.i l.lanes
