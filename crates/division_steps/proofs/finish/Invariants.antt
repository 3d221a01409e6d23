use Prim.Native.Nat.{ℕ, ◌≤◌}
use mathlib.Core.Path.{◌≡◌}
use lib.ListN.{length, get_or}
use Rattle.code.specs.Register.{low}
use Rattle.division_steps.proofs.finish.Given as goal

abbrev pub invariant-loop-i : goal.invariant-loop-i
invariant-loop-i l = (length l.words ≡ 14) × (low l.words l.i ≡ low l.from l.i) × ((k : ℕ) → l.i ≤ k → get_or l.words k 0 ≡ 0) × (l.used ≤ 14)
