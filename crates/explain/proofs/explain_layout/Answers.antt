use mathlib.Core.Path.{sym}
use Rattle.explain.specs.Reasons.{explain_for, explain_layout}
use Rattle.explain.proofs.explain_layout.Goals as goal

pub returns-in-Ok : goal.returns-in-Ok
unfolding explain_layout explain_for
returns-in-Ok c = simp (sym c.check_layout.ensures, c.in-Ok.is)

pub returns-in-Err : goal.returns-in-Err
unfolding explain_layout explain_for
returns-in-Err c = simp (c.why_refused.ensures, sym c.check_layout.ensures, c.in-Err.is)
