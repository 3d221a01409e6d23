use mathlib.Core.Path.{refl}
use Rattle.key_equation.proofs.grown_length.Goals as goal

pub returns : goal.returns
returns c = refl
