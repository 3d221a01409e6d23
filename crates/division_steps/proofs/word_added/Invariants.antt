use mathlib.Core.Path.{◌≡◌}
use Rattle.division_steps.specs.Sums.{word_sum}
use Rattle.division_steps.proofs.word_added.Given as goal

abbrev pub invariant-loop-b : goal.invariant-loop-b
invariant-loop-b l = l.sum ≡ word_sum l.table l.at l.i l.b l.start
