use mathlib.Core.Path.{refl}
use Rattle.fragments.specs.Calls.{ending, import_of}
use Rattle.rudderfig.proofs.Fragments.{fragments-returns}
use Rattle.rudderfig.proofs.locator.rudderfig_import_fragments.Goals as goal

pub returns : goal.returns
unfolding import_of ending
returns c = fragments-returns _ _ c.import_fragments-imported.ensures refl c.answer_number.ensures c.answer_word.ensures
