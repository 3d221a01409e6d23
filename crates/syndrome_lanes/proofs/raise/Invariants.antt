use Rattle.syndrome_lanes.proofs.Rows.{Raising}
use Rattle.syndrome_lanes.proofs.raise.Given as goal

abbrev pub invariant-loop-i : goal.invariant-loop-i
invariant-loop-i l = Raising l.f l.initial.lanes l.i l.e l.lanes
