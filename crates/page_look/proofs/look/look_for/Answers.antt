use mathlib.Core.Path.{◌∙◌}
use Rattle.std.proofs.lemmas.Result.{err_from_is_err_and}
use Rattle.page_theory.specs.Calls.{look_for}
use Rattle.replies.specs.Replies.{verdict_number, verdict_block}
use Rattle.page_look.proofs.Ends.{look-layout}
use Rattle.page_look.proofs.look.look_for.Goals as goal

pub look_in-requires : goal.look_in-requires
look_in-requires c = rw c.plan_of.ensures (c.requires _ c.in_ok-layout.was)

pub returns : goal.returns
unfolding look_for
returns c = c.look_in.ensures ∙ simp (c.plan_of.ensures, c.in_ok-layout.was)

pub returns-in_err-layout : goal.returns-in_err-layout
unfolding verdict_number verdict_block
returns-in_err-layout c =
    let p = err_from_is_err_and c.from_residual.result c.from_residual.ensures.1 in
    rw p.1 (look-layout _ _ p.2 c.in_err-layout.was)
