use mathlib.Core.Path.{sym, ◌∙◌}
use Rattle.page_plan.proofs.Plans.{words-sound}
use Rattle.page_claim.proofs.claim.check_claim.Goals as goal

pub claim_for-requires : goal.claim_for-requires
claim_for-requires c l e = words-sound _ (λ i. (c.shared_slice_known-1.given i).fits) l (sym c.check_layout.ensures ∙ e)

pub returns : goal.returns
returns c = c.claim_for.ensures ∙ rw c.check_layout.ensures
