use mathlib.Core.Path.{sym, ◌∙◌}
use Rattle.replies.specs.Replies.{number, verdict_number}
use Rattle.piece_states.specs.Calls.{finished, finish_for, finish_of}
use Rattle.piece_states.proofs.finish.Goals as goal

pub returns-in-Some : goal.returns-in-Some
unfolding finish_of finish_for verdict_number number
returns-in-Some c = c.finish_in.ensures ∙ simp (sym c.choose.ensures, c.in-Some.is)

pub returns-in-None : goal.returns-in-None
unfolding finish_of finish_for finished verdict_number number
returns-in-None c = simp (sym c.choose.ensures, c.in-None.is)
