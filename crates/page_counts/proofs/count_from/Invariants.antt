use Prim.Native.Nat.{◌-◌, ◌≤◌}
use Rattle.page_decide.specs.Deciding.{Remembers}
use Rattle.page_counts.specs.Looking.{Underway}
use Rattle.page_counts.proofs.count_from.Given as goal

abbrev pub invariant-loop-at : goal.invariant-loop-at
invariant-loop-at l = (l.initial.at.block ≤ l.at.block) × (Underway l.plan l.page l.at l.counts) × Remembers l.plan l.last

abbrev pub decreases-loop-at : goal.decreases-loop-at
decreases-loop-at l = l.blocks - l.at.block
