use native.Mathlib.Omega.{arith}
use Rattle.bits.proofs.Steps.{byte-joined}
use Rattle.bits.proofs.read.byte_at.Goals as goal

pub returns : goal.returns
returns c = byte-joined _ _ _ _ c.joined.ensures (omega arith) (omega arith)
    c.byte_or_zero-high.ensures c.byte_or_zero-low.ensures (omega arith) (omega arith)
