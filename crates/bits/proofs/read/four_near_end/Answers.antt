use native.Mathlib.Omega.{arith}
use Rattle.bits.proofs.Steps.{four-joined}
use Rattle.bits.proofs.read.four_near_end.Goals as goal

pub returns : goal.returns
returns c = four-joined _ _ c.four_of.ensures c.byte_or_zero-a.ensures c.byte_or_zero-b.ensures c.byte_or_zero-c.ensures c.byte_or_zero-d.ensures
    (omega arith) (omega arith) (omega arith) (omega arith)
