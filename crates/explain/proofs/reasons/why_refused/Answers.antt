use mathlib.Core.Path.{sym, ap, ◌∙◌}
use Rattle.explain.specs.Reasons.{why, why_of}
use Rattle.explain.proofs.reasons.why_refused.Goals as goal

pub returns-in-Edition : goal.returns-in-Edition
unfolding why why_of
returns-in-Edition c = sym (ap (why_of _ _) c.in-Edition.is)

pub returns-in-RecordLength : goal.returns-in-RecordLength
unfolding why why_of
returns-in-RecordLength c = sym (ap (why_of _ _) c.in-RecordLength.is)

pub returns-in-Rule : goal.returns-in-Rule
unfolding why why_of
returns-in-Rule c = c.rule_why.ensures ∙ sym (ap (why_of _ _) c.in-Rule.is)

pub returns-in-Range : goal.returns-in-Range
unfolding why why_of
returns-in-Range c = sym (ap (why_of _ _) c.in-Range.is)
