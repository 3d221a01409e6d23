use Prim.Native.Nat.{◌≤◌}
use mathlib.Core.Path.{◌≡◌}
use lib.ListN.{length}
use Rattle.division_steps.specs.Sums.{Added}
use Rattle.division_steps.proofs.words_added.Given as goal

abbrev pub invariant-loop-i : goal.invariant-loop-i
invariant-loop-i l = (l.from ≤ l.i) × (length l.words ≡ 15) × Added l.table l.at l.i l.to l.initial.words l.words
