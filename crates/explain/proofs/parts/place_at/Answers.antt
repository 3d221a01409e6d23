use mathlib.Core.Path.{refl}
use Rattle.explain.specs.Parts.{place_at}
use Rattle.explain.proofs.parts.place_at.Goals as goal

pub returns : goal.returns
unfolding place_at
returns c = refl
