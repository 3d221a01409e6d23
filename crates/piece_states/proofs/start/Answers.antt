use mathlib.Core.Path.{sym, ◌∙◌}
use Rattle.replies.specs.Replies.{number, verdict_number}
use Rattle.piece_states.specs.Calls.{start_for, start_of}
use Rattle.piece_states.proofs.start.Goals as goal

pub returns-then-not-offered : goal.returns-then-not-offered
unfolding start_of verdict_number number
returns-then-not-offered c = rw (sym c.offered.ensures ∙ c.if-not-offered.true)

pub returns-in-Some : goal.returns-in-Some
unfolding start_of start_for verdict_number number
returns-in-Some c = c.start_in.ensures
    ∙ simp (sym c.offered.ensures ∙ c.if-not-offered.false, sym c.choose.ensures, c.in-Some.is)

pub returns-in-None : goal.returns-in-None
unfolding start_of start_for verdict_number number
returns-in-None c = simp (sym c.offered.ensures ∙ c.if-not-offered.false, sym c.choose.ensures, c.in-None.is)
