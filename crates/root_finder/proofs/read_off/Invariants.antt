use Rattle.std.proofs.Common.{◌-◌, ◌≤◌}
use Rattle.root_finder.proofs.read_off.Given as goal

abbrev pub invariant-loop-at : goal.invariant-loop-at
invariant-loop-at l = l.at ≤ l.d

abbrev pub decreases-loop-at : goal.decreases-loop-at
decreases-loop-at l = l.d - l.at
