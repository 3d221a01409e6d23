use native.Mathlib.Omega.{arith}
use Rattle.field_tables.proofs.Lookup.{a^-wrap}
use Rattle.field_tables.proofs.wrap.Goals as goal

pub returns-else-s-n : goal.returns-else-s-n
returns-else-s-n c = (omega arith, rw c.longest-n.ensures (a^-wrap _ _ (omega arith)))
