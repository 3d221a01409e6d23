use native.Mathlib.Omega.{arith}
use lib.ListN.{length-append}
use Rattle.stored_tables.proofs.Copy.{then}
use Rattle.stored_tables.proofs.copy_parts.Goals as goal

pub returns : goal.returns
returns c = then
    (then
    (then c.copy_part.ensures c.copy_part-2.ensures (omega arith))
    c.copy_part-3.ensures
    (simp length-append (omega arith)))
    c.copy_part-4.ensures
    (simp length-append (omega arith))
