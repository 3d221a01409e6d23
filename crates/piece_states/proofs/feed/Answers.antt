use mathlib.Core.Path.{sym, ◌∙◌}
use Rattle.replies.specs.Replies.{number, verdict_number}
use Rattle.piece_states.specs.Calls.{feed_for, feed_of}
use Rattle.piece_states.proofs.feed.Goals as goal

pub returns-in-Some : goal.returns-in-Some
unfolding feed_of feed_for verdict_number number
returns-in-Some c = c.feed_in.ensures ∙ simp (sym c.choose.ensures, c.in-Some.is)

pub returns-in-None : goal.returns-in-None
unfolding feed_of feed_for verdict_number number
returns-in-None c = simp (sym c.choose.ensures, c.in-None.is)
