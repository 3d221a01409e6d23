use mathlib.Core.Path.{refl}
use Rattle.version_list.specs.Plain.{empty}
use Rattle.version_list.specs.Places.{held}
use Rattle.store.specs.Answers.{listed}
use Rattle.store.proofs.Store.empty.Goals as goal

pub returns : goal.returns
unfolding listed held empty
returns c = refl
