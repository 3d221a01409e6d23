use Prim.Native.Nat.{ℕ, ◌<◌, ◌-◌, ◌+◌, ◌*◌, ◌/◌, ◌%◌, ◌^◌}
use mathlib.Core.Path.{◌≡◌}
use lib.ListN.{length, get_or}
use Rattle.division_steps.proofs.places.Given as goal

abbrev pub invariant-loop-b : goal.invariant-loop-b
invariant-loop-b l = (length l.at ≡ 8) × (l.left ≡ l.v / 2 ^ (8 * l.b)) × ((k : ℕ) → k < l.b → get_or l.at k 0 ≡ l.size * (l.v / 2 ^ (8 * k) % 256) + 8 - k)
