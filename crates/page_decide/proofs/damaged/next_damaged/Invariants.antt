use Prim.Native.Nat.{◌-◌, ◌≤◌}
use Rattle.page_decide.specs.Scanning.{Reached}
use Rattle.page_decide.proofs.Scanning.{Clean}
use Rattle.page_decide.proofs.damaged.next_damaged.Given as goal

abbrev pub invariant-loop-at : goal.invariant-loop-at
invariant-loop-at l = (l.initial.at.block ≤ l.at.block) × Reached l.plan l.page l.at × Clean l.plan l.page l.initial.at.block l.at.block

abbrev pub decreases-loop-at : goal.decreases-loop-at
decreases-loop-at l = l.blocks - l.at.block
