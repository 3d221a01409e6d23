use mathlib.Core.Path.{refl}
use Rattle.page_look.proofs.look.counts_fit.Goals as goal

pub returns : goal.returns
returns c = refl
