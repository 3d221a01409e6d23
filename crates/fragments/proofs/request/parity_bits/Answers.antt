use native.Mathlib.Omega.{arith}
use Rattle.fragments.specs.Calls.{level_of, coefficients}
use Rattle.fragments.proofs.request.parity_bits.Goals as goal

pub returns : goal.returns
unfolding coefficients level_of
returns c = omega arith
