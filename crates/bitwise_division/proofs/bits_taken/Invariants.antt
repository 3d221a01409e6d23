use Prim.Native.Nat.{◌+◌, ◌*◌, ◌^◌}
use mathlib.Core.Path.{◌≡◌}
use Rattle.bits.specs.Bits.{bit_of, run}
use Rattle.code.specs.Register.{low, register}
use Rattle.remainder.specs.Parity.{parity_from}
use Rattle.bitwise_division.proofs.bits_taken.Given as goal

abbrev pub invariant-loop-i : goal.invariant-loop-i
invariant-loop-i l = register l.r.words ≡ parity_from (64 * l.used) (2 ^ (64 * l.used) + low l.row l.used) (register l.initial.r.words) (run (bit_of l.bytes) l.at l.i)
