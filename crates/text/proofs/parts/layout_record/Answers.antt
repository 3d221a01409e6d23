use mathlib.Core.Path.{refl}
use Rattle.text.specs.Parts.{record_of}
use Rattle.text.proofs.parts.layout_record.Goals as goal

pub returns : goal.returns
unfolding record_of
returns c = refl
