use mathlib.Core.Path.{◌≡◌}
use Prim.Native.Nat.{◌*◌}
use lib.ListN.{length}
use Rattle.bits.specs.Bits.{bit_of, run, placed}
use Rattle.bit_writing.proofs.copy.copy_aligned.Given as goal

abbrev pub invariant-loop-i : goal.invariant-loop-i
invariant-loop-i l = (length l.to ≡ length l.initial.to) × (l.to ≡ placed l.initial.to l.position (run (bit_of l.from) l.at (8 * l.i)))
