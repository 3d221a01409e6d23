use Prim.Native.Nat.{ℕ, ◌+◌, ◌-◌}
use mathlib.Core.Path.{◌≡◌}
use lib.ListN.{length}
use Rattle.table_rows.specs.Rows.{Row, OnlyRows}
use Rattle.division_table.specs.Sums.{Sums, All}
use Rattle.division_table.proofs.fill.add_power.Given as goal

abbrev pub invariant-loop-v : goal.invariant-loop-v
invariant-loop-v l = (length l.table ≡ length l.initial.table)
    × ((X : ℕ → ℕ) → Sums (l.i + 1) X → All l.n l.count X l.first l.initial.table → Row l.n l.initial.table (l.first + l.count) (X l.count) → All l.n (l.count + l.v) X l.first l.table)
    × OnlyRows l.n (l.first + l.count + 1) (l.v - 1) l.initial.table l.table
