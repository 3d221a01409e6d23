use mathlib.Core.Path.{sym, ◌∙◌}
use Rattle.page_plan.proofs.Plans.{words-sound}
use Rattle.page_look.proofs.look.look_page.Goals as goal

pub look_for-requires : goal.look_for-requires
look_for-requires c l e = words-sound _ (λ i. (c.shared_slice_known-1.given i).fits) l (sym c.check_layout.ensures ∙ e)

pub returns : goal.returns
returns c = c.look_for.ensures ∙ rw c.check_layout.ensures
