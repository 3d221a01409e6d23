use Prim.Native.Nat.{ℕ, ◌<◌, ◌+◌, ◌*◌}
use mathlib.Core.Path.{◌≡◌}
use lib.ListN.{length, get_or}
use Rattle.bits.specs.Bits.{bit_of, run, number}
use Rattle.division.specs.Turned.{turned_word}
use Rattle.division.proofs.words.sixteen_words.Given as goal

abbrev pub invariant-loop-i : goal.invariant-loop-i
invariant-loop-i l = (length l.words ≡ 16) × ((k : ℕ) → k < l.i → turned_word (get_or l.words k 0) ≡ number (run (bit_of l.bytes) (8 * l.from + 64 * k) 64))
