use mathlib.Core.Path.{sym, ap}
use Rattle.explain_words.specs.Words.{about_number}
use Rattle.explain_words.proofs.about_number.Goals as goal

pub returns-in-Edition : goal.returns-in-Edition
unfolding about_number
returns-in-Edition c = sym (ap about_number c.in-Edition.is)

pub returns-in-Record : goal.returns-in-Record
unfolding about_number
returns-in-Record c = sym (ap about_number c.in-Record.is)

pub returns-in-First : goal.returns-in-First
unfolding about_number
returns-in-First c = sym (ap about_number c.in-First.is)

pub returns-in-Later : goal.returns-in-Later
unfolding about_number
returns-in-Later c = sym (ap about_number c.in-Later.is)

pub returns-in-Page : goal.returns-in-Page
unfolding about_number
returns-in-Page c = sym (ap about_number c.in-Page.is)

pub returns-in-Lent : goal.returns-in-Lent
unfolding about_number
returns-in-Lent c = sym (ap about_number c.in-Lent.is)

pub returns-in-List : goal.returns-in-List
unfolding about_number
returns-in-List c = sym (ap about_number c.in-List.is)

pub returns-in-Block : goal.returns-in-Block
unfolding about_number
returns-in-Block c = sym (ap about_number c.in-Block.is)

pub returns-in-Position : goal.returns-in-Position
unfolding about_number
returns-in-Position c = sym (ap about_number c.in-Position.is)
