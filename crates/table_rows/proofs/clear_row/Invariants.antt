use Prim.Native.Nat.{◌≤◌, ◌+◌}
use mathlib.Core.Path.{◌≡◌}
use lib.ListN.{length, drop}
use Rattle.wide.specs.Bytes.{little, Only}
use Rattle.table_rows.proofs.clear_row.Given as goal

abbrev pub invariant-loop-i : goal.invariant-loop-i
invariant-loop-i l = (length l.rows ≡ length l.initial.rows) × (little (drop l.to l.rows) l.i ≡ 0) × Only l.to l.i l.initial.rows l.rows × (l.to + l.size ≤ length l.initial.rows) × (l.size ≤ 128)
