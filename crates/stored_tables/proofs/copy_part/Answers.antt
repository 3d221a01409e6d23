use native.Mathlib.Omega.{arith}
use Rattle.std.proofs.lemmas.List.{take_all}
use Rattle.stored_tables.proofs.Copy.{copied-part}
use Rattle.stored_tables.proofs.copy_part.Goals as goal

pub returns : goal.returns
returns c = copied-part (grind (arith, take_all)) (omega arith)
