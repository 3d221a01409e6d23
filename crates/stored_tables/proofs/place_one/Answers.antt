use mathlib.Core.Path.{ap}
use lib.ListN.{set}
use Rattle.stored_tables.proofs.place_one.Goals as goal

pub returns : goal.returns
returns c = ap (λ i. set c.args.logs.now i 0) c.requires.0
