use mathlib.Core.Path.{◌≡◌}
use lib.ListN.{length, take}
use Rattle.bits.specs.Bits.{run}
use Rattle.version_bytes.specs.Saved.{number_at}
use Rattle.version_bytes.proofs.numbers_in.Given as goal

abbrev pub invariant-loop-chip : goal.invariant-loop-chip
invariant-loop-chip l = (length l.numbers ≡ 16) × (take l.chip l.numbers ≡ run (number_at l.buffer) 0 l.chip)
