use mathlib.Core.Path.{sym, ◌∙◌}
use Rattle.roundtrip.specs.Round.{round_for, round_of}
use Rattle.page_theory.proofs.Accepted.{words-accepts}
use Rattle.roundtrip.proofs.round.round_trip.Goals as goal

pub round_in-requires : goal.round_in-requires
round_in-requires c = rw c.plan_of.ensures (words-accepts _ _ (sym c.check_layout.ensures ∙ c.in-Ok.is))

pub returns-in-Ok : goal.returns-in-Ok
unfolding round_of round_for
returns-in-Ok c = c.round_in.ensures
    ∙ simp (c.plan_of.ensures, sym c.check_layout.ensures, c.in-Ok.is)

pub returns-in-Err : goal.returns-in-Err
unfolding round_of round_for
returns-in-Err c = simp (c.refusal_reply.ensures, sym c.check_layout.ensures, c.in-Err.is)
