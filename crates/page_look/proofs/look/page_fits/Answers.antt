use mathlib.Core.Path.{refl}
use Rattle.page_look.proofs.look.page_fits.Goals as goal

pub returns : goal.returns
returns c = refl
