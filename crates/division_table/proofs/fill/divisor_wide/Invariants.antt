use Prim.Native.Nat.{ℕ, ◌≤◌}
use mathlib.Core.Path.{◌≡◌}
use lib.ListN.{length, get_or}
use Rattle.code.specs.Register.{low}
use Rattle.division_table.proofs.fill.divisor_wide.Given as goal

abbrev pub invariant-loop-i : goal.invariant-loop-i
invariant-loop-i l = (length l.words ≡ 15) × (low l.words l.i ≡ low l.row l.i) × ((k : ℕ) → l.i ≤ k → get_or l.words k 0 ≡ 0)
