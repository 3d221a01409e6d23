use Prim.Native.Nat.{◌≤◌, ◌*◌, ◌+◌, ◌^◌, ◌%◌}
use mathlib.Core.Path.{◌≡◌}
use lib.ListN.{length, drop}
use lib.Bits.{bit_xor}
use Rattle.wide.specs.Bytes.{little, Only}
use Rattle.wide.proofs.Bytes.{Bytes}
use Rattle.table_rows.proofs.put_power.Given as goal

abbrev pub invariant-loop-i : goal.invariant-loop-i
invariant-loop-i l = (length l.rows ≡ length l.initial.rows)
    × (little (drop l.a l.initial.rows) 8 ≡ 0 → little (drop l.b l.initial.rows) 8 ≡ 0 → little (drop l.c l.rows) l.i ≡ bit_xor (little (drop l.a l.initial.rows) l.i * 2 ^ l.k % 2 ^ (8 * l.i)) (little (drop l.b l.initial.rows) l.i))
    × Only l.c l.i l.initial.rows l.rows × Bytes l.rows × (l.c + l.size ≤ length l.initial.rows) × (l.size ≤ 128) × (l.a + l.size ≤ l.c) × (l.b + l.size ≤ l.c)
