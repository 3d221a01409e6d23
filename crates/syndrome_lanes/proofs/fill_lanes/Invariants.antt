use Rattle.syndrome_lanes.specs.Lanes.{Filled}
use Rattle.syndrome_lanes.proofs.fill_lanes.Given as goal

abbrev pub invariant-loop-p : goal.invariant-loop-p
invariant-loop-p l = Filled l.powers l.t l.p l.rows
