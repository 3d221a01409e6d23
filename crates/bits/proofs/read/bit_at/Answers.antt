use Rattle.bits.specs.Bits.{bit, bit_at}
use Rattle.bits.proofs.read.bit_at.Goals as goal

pub returns : goal.returns
unfolding bit_at bit
returns c = rw c.byte_or_zero.ensures
