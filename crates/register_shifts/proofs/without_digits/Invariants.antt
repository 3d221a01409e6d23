use Prim.Native.Nat.{◌+◌, ◌*◌, ◌/◌, ◌^◌}
use mathlib.Core.Path.{◌≡◌}
use lib.ListN.{length, get_or}
use Rattle.code.specs.Register.{low}
use Rattle.register_shifts.proofs.without_digits.Given as goal

abbrev pub invariant-loop-i : goal.invariant-loop-i
invariant-loop-i l = (length l.words ≡ 14) × (low l.words l.i + get_or l.from l.i 0 / 2 ^ l.k * 2 ^ (64 * l.i) ≡ low l.from (l.i + 1) / 2 ^ l.k)
