use mathlib.Core.Path.{refl}
use Rattle.compare.proofs.pages.is_compared.Goals as goal

pub returns : goal.returns
returns c = refl
