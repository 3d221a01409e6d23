use mathlib.Core.Path.{◌≡◌}
use Prim.Native.Nat.{ℕ, ◌<◌, ◌*◌, ◌/◌, ◌%◌, ◌^◌}
use lib.ListN.{length, get_or}
use Rattle.code.specs.Register.{register}
use Rattle.register_fragments.proofs.to_fragments.Given as goal

abbrev pub invariant-loop-i : goal.invariant-loop-i
invariant-loop-i l = (length l.l ≡ length l.initial.l) × ((j : ℕ) → j < l.i → get_or l.l j 0 ≡ register l.words / 2 ^ (32 * j) % 2 ^ 32)
