use Rattle.field.specs.declared.Field.TheVariants.{Thirteen, Fourteen}
use Rattle.powers.proofs.Fill.{first-power, both-tables}
use Rattle.powers.proofs.fill_tables.Goals as goal

pub copy_logs-requires : goal.copy_logs-requires
copy_logs-requires c = (first-power Thirteen c.copy_powers.ensures.0, c.requires.1)

pub copy_logs-requires-in-Fourteen : goal.copy_logs-requires-in-Fourteen
copy_logs-requires-in-Fourteen c = (first-power Fourteen c.compute_powers.ensures.0, c.requires.1)

pub returns-in-Thirteen-clause-tables : goal.returns-in-Thirteen-clause-tables
returns-in-Thirteen-clause-tables c =
    rw c.in-Thirteen.is (both-tables Thirteen c.copy_powers.ensures.0 c.copy_logs.ensures.0)

pub returns-in-Fourteen-clause-tables : goal.returns-in-Fourteen-clause-tables
returns-in-Fourteen-clause-tables c =
    rw c.in-Fourteen.is (both-tables Fourteen c.compute_powers.ensures.0 c.copy_logs-in-Fourteen.ensures.0)
