use Prim.Native.Nat.{ℕ, ◌≤◌, ◌<◌, ◌+◌}
use mathlib.Core.Path.{◌≡◌}
use lib.ListN.{length, get_or}
use Rattle.division_steps.proofs.word_up.Given as goal

abbrev pub invariant-loop-i : goal.invariant-loop-i
invariant-loop-i l = (length l.words ≡ 15) × (get_or l.words 0 0 ≡ 0) × ((k : ℕ) → k < l.i → get_or l.words (k + 1) 0 ≡ get_or l.from k 0) × ((k : ℕ) → l.used + 1 ≤ k → get_or l.words k 0 ≡ 0)
