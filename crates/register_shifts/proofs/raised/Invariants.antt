use Prim.Native.Nat.{◌≤◌, ◌<◌, ◌*◌, ◌%◌, ◌^◌}
use mathlib.Core.Path.{◌≡◌}
use Rattle.code.specs.Register.{register}
use Rattle.register_shifts.proofs.raised.Given as goal

abbrev pub invariant-loop-left : goal.invariant-loop-left
invariant-loop-left l = (l.left ≤ l.k) × (register l.r.words * 2 ^ l.left % 2 ^ 896 ≡ register l.initial.r.words * 2 ^ l.k % 2 ^ 896) × (register l.r.words < 2 ^ 896)

abbrev pub decreases-loop-left : goal.decreases-loop-left
decreases-loop-left l = l.left
