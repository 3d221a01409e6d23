use Prim.Native.Nat.{ℕ, ◌≤◌, ◌^◌, ◌*◌, ◌<◌}
use mathlib.Core.Path.{◌≡◌}
use lib.ListN.{length}
use Rattle.table_rows.specs.Rows.{Row, OnlyRows}
use Rattle.division_table.specs.Sums.{Powers}
use Rattle.division_table.proofs.fill.odd_powers.Given as goal

abbrev pub invariant-loop-i : goal.invariant-loop-i
invariant-loop-i l = (l.n ≤ 15) × (36864 ≤ length l.table) × (length l.table ≡ length l.initial.table)
    × ((X : ℕ → ℕ) → Row l.n l.initial.table 0 0 → ((j : ℕ) → j < 4 → X (2 ^ j) * 2 ^ 4 < 2 ^ (64 * l.n)) → Powers l.n 4 X 256 l.initial.table → Row l.n l.initial.table 272 (X 0 * 2 ^ 4) → Powers l.n l.i (λ v. X v * 2 ^ 4) 272 l.table)
    × OnlyRows l.n 272 16 l.initial.table l.table
