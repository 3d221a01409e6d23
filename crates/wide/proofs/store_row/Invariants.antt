use Prim.Native.Nat.{◌*◌}
use mathlib.Core.Path.{◌≡◌}
use lib.ListN.{length, drop}
use Rattle.code.specs.Register.{low}
use Rattle.wide.specs.Bytes.{little, Only}
use Rattle.wide.proofs.store_row.Given as goal

abbrev pub invariant-loop-i : goal.invariant-loop-i
invariant-loop-i l = (length l.rows ≡ length l.initial.rows) × (little (drop l.to l.rows) (8 * l.i) ≡ low l.words l.i) × Only l.to (8 * l.i) l.initial.rows l.rows
