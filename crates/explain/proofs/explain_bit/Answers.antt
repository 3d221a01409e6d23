use mathlib.Core.Path.{sym, ◌∙◌}
use Rattle.explain.specs.Parts.{part_for, explain_bit}
use Rattle.explain.proofs.Places.{bit-told}
use Rattle.explain.proofs.explain_bit.Goals as goal

pub part_by-requires : goal.part_by-requires
part_by-requires c = bit-told _ _ c.locate_bit-answer.ensures (sym c.check_layout.ensures ∙ c.in-Ok.is) c.plan_of.ensures

pub returns-in-Ok : goal.returns-in-Ok
unfolding explain_bit part_for
returns-in-Ok c = c.part_by.ensures
    ∙ simp (c.plan_of.ensures, sym c.check_layout.ensures, c.in-Ok.is)

pub returns-in-Err : goal.returns-in-Err
unfolding explain_bit part_for
returns-in-Err c = simp (c.why_refused.ensures, sym c.check_layout.ensures, c.in-Err.is)
