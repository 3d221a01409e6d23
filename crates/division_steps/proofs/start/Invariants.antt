use Prim.Native.Nat.{ℕ, ◌≤◌, ◌<◌, ◌+◌, ◌*◌, ◌^◌}
use mathlib.Core.Path.{◌≡◌}
use lib.ListN.{length, get_or}
use Rattle.code.specs.Register.{low}
use Rattle.division_steps.proofs.start.Given as goal

abbrev pub invariant-loop-i : goal.invariant-loop-i
invariant-loop-i l = (length l.words ≡ 15) × (l.carry < 2 ^ l.k) × (low l.words l.i + l.carry * 2 ^ (64 * l.i) ≡ low l.from l.i * 2 ^ l.k + 0) × ((j : ℕ) → l.i ≤ j → get_or l.words j 0 ≡ 0) × (low l.words l.i < 2 ^ (64 * l.i)) × (l.used ≤ 14)
