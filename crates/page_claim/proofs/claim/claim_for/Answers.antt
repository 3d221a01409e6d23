use mathlib.Core.Path.{◌∙◌}
use Rattle.std.proofs.lemmas.Result.{err_from_is_err_and}
use Rattle.page_theory.specs.Calls.{claim_for}
use Rattle.layout.specs.Acceptance.{refusal_reply}
use Rattle.replies.specs.Replies.{verdict_number}
use Rattle.page_claim.proofs.claim.claim_for.Goals as goal

pub claim_in-requires : goal.claim_in-requires
claim_in-requires c = rw c.plan_of.ensures (c.requires _ c.in_ok-layout.was)

pub returns : goal.returns
unfolding claim_for
returns c = c.claim_in.ensures ∙ simp (c.plan_of.ensures, c.in_ok-layout.was)

pub returns-in_err-layout : goal.returns-in_err-layout
unfolding verdict_number claim_for refusal_reply
returns-in_err-layout c =
    let p = err_from_is_err_and c.from_residual.result c.from_residual.ensures.1 in
    simp (p.1, p.2, c.in_err-layout.was)
