use Rattle.layout_plan.specs.Record.{fields_at}
use Rattle.layout_record.proofs.words.fields_at.Goals as goal

pub returns : goal.returns
unfolding fields_at
returns c = rw (c.block_fields.ensures, c.block_fields-2.ensures)
