use native.Mathlib.Omega.{arith}
use Rattle.bits.proofs.Steps.{joined-lt}
use Rattle.bits.proofs.read.joined.Goals as goal

pub overflow_add-result : goal.overflow_add-result
overflow_add-result c = omega (arith, joined-lt 8 c.args.high c.args.low c.args.k (omega arith) c.requires (omega arith))

pub overflow_cast-result : goal.overflow_cast-result
overflow_cast-result c = omega (arith, joined-lt 8 c.args.high c.args.low c.args.k (omega arith) c.requires (omega arith))
