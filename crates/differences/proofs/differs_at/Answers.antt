use mathlib.Core.Path.{sym, ◌∙◌}
use Rattle.differences.proofs.Passing.{differs-marked, differs-bits}
use Rattle.differences.proofs.differs_at.Goals as goal

pub returns-then-is_marked : goal.returns-then-is_marked
returns-then-is_marked c = sym (differs-marked _ _ _ _ (sym c.is_marked.ensures ∙ c.if-is_marked.true))

pub returns : goal.returns
returns c = simp (c.bit_at-a.ensures, c.bit_at-b.ensures)
    (sym (differs-bits _ _ _ _ (sym c.is_marked.ensures ∙ c.if-is_marked.false)))
