use mathlib.Core.Path.{sym}
use Rattle.layout_plan.specs.Record.{fields_under}
use Rattle.layout_record.proofs.words.fields_in.Goals as goal

pub returns : goal.returns
unfolding fields_under
returns c = rw (sym c.mark_in-mark.ensures, sym c.zeros_in-zeros.ensures) c.fields_at.ensures
