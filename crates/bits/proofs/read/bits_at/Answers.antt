use Prim.Native.Nat.{◌-◌, ◌^◌}
use native.Mathlib.Nat.{div-le_self}
use native.Mathlib.Omega.{arith}
use Rattle.bits.proofs.Steps.{bits-first}
use Rattle.bits.proofs.read.bits_at.Goals as goal

pub overflow_cast-result-3 : goal.overflow_cast-result-3
overflow_cast-result-3 c = omega (arith, div-le_self c.byte_at-byte.result (2 ^ (8 - c.args.n)))

pub returns : goal.returns
returns c = bits-first _ _ _ c.requires c.byte_at-byte.ensures
