use mathlib.Core.Path.{refl}
use Rattle.code.specs.Register.{register, low}
use Rattle.remainder.proofs.coefficients.zero.Goals as goal

pub returns : goal.returns
unfolding register low
returns c = refl
