use mathlib.Core.Path.{sym, ◌∙◌}
use Rattle.replies.specs.Replies.{number, verdict_number}
use Rattle.page_theory.specs.Calls.{look_reply}
use Rattle.page_look.proofs.look.look_reply.Goals as goal

pub returns-then-not-page_fits : goal.returns-then-not-page_fits
unfolding look_reply verdict_number number
returns-then-not-page_fits c = simp (sym c.page_fits.ensures ∙ c.if-not-page_fits.true)

pub returns-then-not-counts_fit : goal.returns-then-not-counts_fit
unfolding look_reply verdict_number number
returns-then-not-counts_fit c = simp (sym c.page_fits.ensures ∙ c.if-not-page_fits.false, sym c.counts_fit.ensures ∙ c.if-not-counts_fit.true)

pub returns : goal.returns
unfolding look_reply verdict_number number
returns c = simp (sym c.page_fits.ensures ∙ c.if-not-page_fits.false, sym c.counts_fit.ensures ∙ c.if-not-counts_fit.false)
