use mathlib.Core.Path.{◌≡◌}
use Prim.Native.Nat.{◌-◌}
use Rattle.field.proofs.Partial.{partial}
use Rattle.field.proofs.shift_and_add.Given as goal

abbrev pub invariant-loop-k : goal.invariant-loop-k
invariant-loop-k l = l.r ≡ partial l.m l.modulus l.x l.y (l.m - l.k)
