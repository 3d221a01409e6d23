use mathlib.Core.Path.{refl}
use Rattle.fragments.specs.Calls.{ending, export_of}
use Rattle.rudderfig.proofs.Fragments.{fragments-returns}
use Rattle.rudderfig.proofs.locator.rudderfig_export_fragments.Goals as goal

pub returns : goal.returns
unfolding export_of ending
returns c = fragments-returns _ _ c.export_fragments-exported.ensures refl c.answer_number.ensures c.answer_word.ensures
