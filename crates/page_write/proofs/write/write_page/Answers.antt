use mathlib.Core.Path.{sym, ◌∙◌}
use Rattle.page_plan.proofs.Plans.{words-sound}
use Rattle.page_write.proofs.write.write_page.Goals as goal

pub write_for-requires : goal.write_for-requires
write_for-requires c l e = words-sound _ (λ i. (c.shared_slice_known-1.given i).fits) l (sym c.check_layout.ensures ∙ e)

pub returns : goal.returns
returns c = c.write_for.ensures ∙ rw c.check_layout.ensures
