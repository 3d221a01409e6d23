use Rattle.layout_plan.specs.Record.{block_fields}
use Rattle.layout_record.proofs.words.block_fields.Goals as goal

pub returns : goal.returns
unfolding block_fields
returns c = rw c.field_of.ensures
