use mathlib.Core.Path.{sym, ◌∙◌}
use Rattle.page_plan.proofs.Plans.{words-sound}
use Rattle.page_take.proofs.take.take_page.Goals as goal

pub take_for-requires : goal.take_for-requires
take_for-requires c l e = words-sound _ (λ i. (c.shared_slice_known-1.given i).fits) l (sym c.check_layout.ensures ∙ e)

pub returns : goal.returns
returns c = c.take_for.ensures ∙ rw c.check_layout.ensures
