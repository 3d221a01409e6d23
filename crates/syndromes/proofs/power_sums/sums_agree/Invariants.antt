use mathlib.Core.Path.{◌≡◌}
use lib.ListN.{take, length}
use Rattle.syndromes.specs.PowerSums.{Summed}
use Rattle.syndromes.proofs.power_sums.sums_agree.Given as goal

abbrev pub invariant-loop-k : goal.invariant-loop-k
invariant-loop-k l = (length l.places ≡ 64) × (Summed l.f l.t l.initial.left (take l.k l.places) l.left)
