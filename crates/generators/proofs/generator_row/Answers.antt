use Rattle.field.specs.declared.Field.TheVariants.{Thirteen, Fourteen}
use Rattle.generators.proofs.Stored.{row-generates}
use Rattle.generators.proofs.generator_row.Goals as goal

pub returns-in-Thirteen : goal.returns-in-Thirteen
returns-in-Thirteen c = rw c.in-Thirteen.is (row-generates Thirteen c.args.ecc c.requires)

pub returns-in-Fourteen : goal.returns-in-Fourteen
returns-in-Fourteen c = rw c.in-Fourteen.is (row-generates Fourteen c.args.ecc c.requires)
