use Prim.Native.Nat.{ℕ, ◌≤◌}
use mathlib.Core.Path.{◌≡◌}
use lib.ListN.{length, get_or, drop}
use Rattle.code.specs.Register.{low}
use Rattle.register_shifts.proofs.without_words.Given as goal

abbrev pub invariant-loop-i : goal.invariant-loop-i
invariant-loop-i l = (length l.words ≡ 14) × (low l.words l.i ≡ low (drop l.q l.from) l.i) × ((k : ℕ) → l.i ≤ k → get_or l.words k 0 ≡ 0)
