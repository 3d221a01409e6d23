use Prim.Native.Nat.{ℕ, ◌≤◌, ◌*◌}
use mathlib.Core.Path.{◌≡◌}
use lib.ListN.{length, get_or, drop}
use lib.Bits.{bit_xor}
use Rattle.code.specs.Register.{low}
use Rattle.wide.specs.Bytes.{little}
use Rattle.wide.proofs.row_added.Given as goal

abbrev pub invariant-loop-i : goal.invariant-loop-i
invariant-loop-i l = (length l.sum ≡ 15) × (low l.sum l.i ≡ bit_xor (little (drop l.from l.rows) (8 * l.i)) (low l.initial.sum l.i)) × ((k : ℕ) → l.i ≤ k → get_or l.sum k 0 ≡ get_or l.initial.sum k 0)
