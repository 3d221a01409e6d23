use Prim.Native.Nat.{◌-◌, ◌≤◌}
use mathlib.Core.Path.{◌≡◌}
use Rattle.bits.specs.Bits.{run}
use Rattle.mark.specs.Mark.{stream_bit}
use Rattle.code.specs.Word.{ones}
use Rattle.roundtrip.proofs.mask.ones_at.Given as goal

abbrev pub invariant-loop-i : goal.invariant-loop-i
invariant-loop-i l = (l.count ≤ l.i) × (l.count ≡ ones (run (stream_bit l.mark l.mask) l.position l.i))
