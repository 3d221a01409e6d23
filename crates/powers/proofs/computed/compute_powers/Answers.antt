use native.Mathlib.Omega.{arith}
use Rattle.field.specs.Field.{longest}
use Rattle.powers.proofs.Fill.{begun-end}
use Rattle.powers.proofs.Strides.{stride-1, stride-8}
use Rattle.powers.proofs.computed.compute_powers.Goals as goal

pub first_powers-requires : goal.first_powers-requires
first_powers-requires c = c.requires

pub more_powers-requires : goal.more_powers-requires
more_powers-requires c = (c.first_powers.ensures, stride-1, omega arith, omega arith, omega arith)

pub more_powers-requires-2 : goal.more_powers-requires-2
more_powers-requires-2 c = (c.more_powers.ensures, stride-8, omega arith, omega arith, omega arith)

pub returns : goal.returns
unfolding longest
returns c = (begun-end c.more_powers-2.ensures (omega arith), c.more_powers-2.ensures.size)
