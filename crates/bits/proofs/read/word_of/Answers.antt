use Prim.Native.Nat.{◌+◌, ◌*◌}
use native.Mathlib.Omega.{arith}
use Rattle.bits.proofs.Steps.{joined-lt}
use Rattle.bits.proofs.read.word_of.Goals as goal

pub overflow_add-result : goal.overflow_add-result
overflow_add-result c = let a = c.args in
    omega (arith, joined-lt 64 (a.upper * 4294967296 + a.lower) a.next a.k (omega arith) c.requires (omega arith))
