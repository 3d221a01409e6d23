use Prim.Native.Nat.{ℕ, ◌≤◌, ◌-◌, ◌+◌, ◌*◌}
use mathlib.Core.Path.{◌≡◌}
use lib.ListN.{length, get_or}
use Rattle.bits.specs.Bits.{bit_of, run, number}
use Rattle.code.specs.Register.{low}
use Rattle.register_digits.proofs.whole_words.Given as goal

abbrev pub invariant-loop-i : goal.invariant-loop-i
invariant-loop-i l = (length l.words ≡ 14) × (low l.words l.i ≡ number (run (bit_of l.bytes) (l.at + 64 * (l.count - l.i)) (64 * l.i))) × ((k : ℕ) → l.i ≤ k → get_or l.words k 0 ≡ 0)
