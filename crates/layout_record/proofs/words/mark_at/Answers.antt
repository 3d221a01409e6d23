use mathlib.Core.Path.{refl}
use Rattle.layout_plan.specs.Record.{mark_at}
use Rattle.layout_record.proofs.words.mark_at.Goals as goal

pub returns : goal.returns
unfolding mark_at
returns c = refl
