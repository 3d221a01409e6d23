use Prim.Native.Nat.{ℕ, ◌≤◌, ◌^◌, ◌*◌, ◌<◌}
use mathlib.Core.Path.{◌≡◌}
use lib.ListN.{length}
use Rattle.table_rows.specs.Rows.{OnlyRows}
use Rattle.division_table.specs.Sums.{Powers}
use Rattle.code.specs.Generator.{times}
use Rattle.division_table.proofs.fill.byte_powers.Given as goal

abbrev pub invariant-loop-i : goal.invariant-loop-i
invariant-loop-i l = (36864 ≤ length l.table) × (length l.table ≡ length l.initial.table)
    × ((x : ℕ) → x * 2 ^ 8 < 2 ^ (64 * l.n) → Powers l.n 1 (times 8 x) 0 l.initial.table → Powers l.n l.i (times 8 x) 0 l.table)
    × OnlyRows l.n 1 255 l.initial.table l.table × (l.n ≤ 15)
