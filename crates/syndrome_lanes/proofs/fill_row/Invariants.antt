use Rattle.syndrome_lanes.proofs.Rows.{Filling}
use Rattle.syndrome_lanes.proofs.fill_row.Given as goal

abbrev pub invariant-loop-i : goal.invariant-loop-i
invariant-loop-i l = Filling l.powers l.p l.initial.rows l.i l.e l.rows
