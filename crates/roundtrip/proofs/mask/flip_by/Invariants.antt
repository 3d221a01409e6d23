use Prim.Native.Nat.{◌-◌, ◌≤◌}
use mathlib.Core.Path.{◌≡◌}
use lib.ListN.{length}
use Rattle.roundtrip.proofs.Masks.{Flipped}
use Rattle.roundtrip.proofs.mask.flip_by.Given as goal

abbrev pub invariant-loop-i : goal.invariant-loop-i
invariant-loop-i l = (length l.page ≡ l.n) × Flipped l.mask l.initial.page l.i l.page
