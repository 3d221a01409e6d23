use Prim.Native.Nat.{ℕ, ◌+◌, ◌≤◌, ◌^◌, ◌*◌}
use mathlib.Core.Path.{◌≡◌}
use lib.ListN.{length, get_or}
use Rattle.code.specs.Register.{low}
use Rattle.division_table.proofs.fill.word_higher.Given as goal

abbrev pub invariant-loop-i : goal.invariant-loop-i
invariant-loop-i l = (length l.words ≡ 15) × (low l.words (l.i + 1) ≡ low l.row l.i * 2 ^ 64) × ((k : ℕ) → l.i + 1 ≤ k → get_or l.words k 0 ≡ 0)
