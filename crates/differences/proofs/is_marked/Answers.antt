use mathlib.Core.Path.{sym}
use Rattle.mark.proofs.Places.{marked-before}
use Rattle.differences.proofs.Passing.{marked-past}
use Rattle.differences.proofs.is_marked.Goals as goal

pub returns-then-p-start : goal.returns-then-p-start
returns-then-p-start c = sym (marked-before _ _ c.if-p-start.true)

pub returns : goal.returns
returns c = sym (marked-past _ _ c.if-p-start.false)
