use Rattle.sectors.specs.Sectors.{block_fields, sector_fields}
use Rattle.sectors.proofs.check.sector_fields.Goals as goal

pub returns : goal.returns
unfolding sector_fields block_fields
returns c = rw c.field_of-field.ensures
