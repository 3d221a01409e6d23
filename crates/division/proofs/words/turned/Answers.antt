use mathlib.Core.Path.{refl}
use Rattle.division.specs.Turned.{turned_half}
use Rattle.division.proofs.words.turned.Goals as goal

pub returns : goal.returns
unfolding turned_half
returns c = refl
