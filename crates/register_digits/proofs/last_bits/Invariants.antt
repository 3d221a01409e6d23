use Prim.Native.Nat.{ℕ, ◌≤◌, ◌<◌, ◌-◌, ◌*◌, ◌/◌, ◌%◌, ◌^◌}
use mathlib.Core.Path.{◌≡◌}
use lib.ListN.{length, get_or}
use Rattle.code.specs.Register.{register}
use Rattle.register_digits.proofs.last_bits.Given as goal

abbrev pub invariant-loop-i : goal.invariant-loop-i
invariant-loop-i l = (length l.bytes ≡ 112) × ((k : ℕ) → (896 - l.n) / 8 ≤ k → k < l.i → get_or l.bytes k 0 ≡ register l.words / 2 ^ (8 * (111 - k)) % 256)
