use mathlib.Core.Path.{◌≡◌}
use Prim.Native.Nat.{◌-◌}
use Rattle.differences.specs.Differences.{next}
use Rattle.differences.proofs.next_from.Given as goal

abbrev pub invariant-loop-p : goal.invariant-loop-p
invariant-loop-p l = next l.mark l.size l.first l.second l.p ≡ next l.mark l.size l.first l.second l.from

abbrev pub decreases-loop-p : goal.decreases-loop-p
decreases-loop-p l = l.end - l.p
