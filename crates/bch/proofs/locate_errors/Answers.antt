use mathlib.Core.Path.{sym, ◌∙◌}
use Rattle.replies.specs.Replies.{number, block}
use Rattle.bch.specs.Answers.{ended, locate_for, locate_of}
use Rattle.bch.proofs.locate_errors.Goals as goal

pub returns-then-not-offered : goal.returns-then-not-offered
unfolding locate_of ended number block
returns-then-not-offered c = rw (sym c.offered.ensures ∙ c.if-not-offered.true)

pub returns-in-Some : goal.returns-in-Some
unfolding locate_of locate_for
returns-in-Some c = c.locate_in.ensures
    ∙ simp (sym c.offered.ensures ∙ c.if-not-offered.false, sym c.choose.ensures, c.in-Some.is)

pub returns-in-None : goal.returns-in-None
unfolding locate_of locate_for ended number block
returns-in-None c = simp (sym c.offered.ensures ∙ c.if-not-offered.false, sym c.choose.ensures, c.in-None.is)
