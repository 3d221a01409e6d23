use Prim.Native.Nat.{ℕ, ◌≤◌, ◌/◌, ◌^◌, ◌*◌, ◌<◌}
use mathlib.Core.Path.{◌≡◌}
use lib.ListN.{length}
use Rattle.table_rows.specs.Rows.{OnlyRows}
use Rattle.division_table.specs.Sums.{Powers}
use Rattle.partial.specs.Clearing.{multiple_of}
use Rattle.division_table.specs.Table.{RowWords}
use Rattle.division_table.proofs.fill.even_powers.Given as goal

abbrev pub invariant-loop-i : goal.invariant-loop-i
invariant-loop-i l = (l.used < l.n) × (l.n ≤ 15) × (RowWords l.used) × (36864 ≤ length l.table) × (length l.table ≡ length l.initial.table)
    × ((g : ℕ) → g / 2 ^ (64 * l.used) ≡ 1 → Powers l.n 1 (multiple_of (64 * l.used) g) 256 l.initial.table → Powers l.n l.i (multiple_of (64 * l.used) g) 256 l.table)
    × OnlyRows l.n 256 16 l.initial.table l.table
