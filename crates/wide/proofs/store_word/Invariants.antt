use Prim.Native.Nat.{◌*◌, ◌^◌, ◌%◌}
use mathlib.Core.Path.{◌≡◌}
use lib.ListN.{length, drop}
use Rattle.wide.specs.Bytes.{little, Only}
use Rattle.wide.proofs.store_word.Given as goal

abbrev pub invariant-loop-i : goal.invariant-loop-i
invariant-loop-i l = (length l.rows ≡ length l.initial.rows) × (little (drop l.to l.rows) l.i ≡ l.w % 2 ^ (8 * l.i)) × Only l.to l.i l.initial.rows l.rows
