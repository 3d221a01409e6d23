use Prim.Native.Nat.{ℕ, ◌^◌}
use mathlib.Core.Path.{◌≡◌}
use lib.ListN.{length}
use Rattle.table_rows.specs.Rows.{OnlyRows}
use Rattle.division_table.specs.Sums.{Sums, Powers, All}
use Rattle.division_table.proofs.fill.fill_sums.Given as goal

abbrev pub invariant-loop-i : goal.invariant-loop-i
invariant-loop-i l = (length l.table ≡ length l.initial.table)
    × ((X : ℕ → ℕ) → Sums l.bits X → Powers l.n l.bits X l.first l.initial.table → Powers l.n l.bits X l.first l.table × All l.n (2 ^ l.i) X l.first l.table) × OnlyRows l.n l.first (2 ^ l.bits) l.initial.table l.table
