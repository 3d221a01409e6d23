use mathlib.Core.Path.{◌≡◌}
use Prim.Native.Nat.{◌*◌, ◌/◌, ◌^◌, ◌-◌}
use lib.ListN.{length}
use Rattle.code.specs.Register.{register}
use Rattle.remainder.proofs.Words.{Words}
use Rattle.syndrome_lanes.specs.Lanes.{Lanes}
use Rattle.syndrome_lanes.proofs.lane_values.Given as goal

abbrev pub invariant-loop-i : goal.invariant-loop-i
invariant-loop-i l = (length l.words ≡ 14) × (Words l.words) × (Lanes l.f l.t (register l.words / 2 ^ (32 * (l.n - l.i))) (32 * l.i) l.lanes)
