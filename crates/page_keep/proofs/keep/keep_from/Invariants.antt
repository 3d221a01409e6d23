use Prim.Native.Nat.{◌-◌, ◌≤◌}
use mathlib.Core.Path.{◌≡◌}
use lib.ListN.{length}
use Rattle.page_decide.specs.Deciding.{Remembers}
use Rattle.page_keep.specs.Keeping.{Underway}
use Rattle.page_keep.proofs.keep.keep_from.Given as goal

abbrev pub invariant-loop-at : goal.invariant-loop-at
invariant-loop-at l = (l.initial.at.block ≤ l.at.block) × (Underway l.plan l.page l.at l.places l.flips) × (Remembers l.plan l.last) × (length l.places ≡ length l.initial.places)

abbrev pub decreases-loop-at : goal.decreases-loop-at
decreases-loop-at l = l.blocks - l.at.block
